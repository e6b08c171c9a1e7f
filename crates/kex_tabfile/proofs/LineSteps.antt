-- Right lines, one after the other.
use Rattle.std.proofs.Common.{◌≡◌, ℕ, List, [], ◌++◌, refl, sym, ap, subst, ◌∙◌, append_assoc, append-nil}
use Rattle.kex_code.specs.Codes.{Begins}
use Rattle.kex_machine.specs.Nodes.{Graph}
use Rattle.kex_tabfile.specs.Lines.{line_behind}
use Rattle.kex_tabfile.specs.Readers.{ReadSoFar, ReadsBytes}
use Rattle.kex_tabfile.specs.Walks.{Spot, IsRightLine, HasNoLine, WalksLines, stays, passes_by, reads_line, IsBehindAll, BreaksFrom}
use Rattle.kex_tabfile.specs.Checking.{Checks, BreaksReading}
use Rattle.kex_tabfile.specs.declared.refusal.TableRefusal.{TableRefusal}
use Rattle.kex_tabfile.specs.declared.refusal.TableRefusal.TheVariants.{TableTooLong, BadTable, Text, Memory}

module _ (g : Graph) (numbers classes : List ℕ) where
  abbrev Walk : Spot → List ℕ → Spot → Type 0
  Walk p bytes q = WalksLines g numbers classes p bytes q

  pub walk_on : (p q r : Spot) (xs ys : List ℕ) → Walk p xs q → Walk q ys r → Walk p (xs ++ ys) r
  walk_on p q r xs ys h stays = subst (λ z. Walk p z r) (sym (append-nil xs)) h
  walk_on p q r xs ys h (passes_by {p = m} w n) = passes_by (walk_on p q m xs ys h w) n
  walk_on p q r xs zs h (reads_line {bytes = ys} {line = line} {p = m} w n) = subst (λ z. Walk p z r) (append_assoc xs ys line) (reads_line (walk_on p q m xs ys h w) n)

  pub read_on : (a b c : ReadSoFar) (xs ys : List ℕ) → ReadsBytes a xs b → ReadsBytes b ys c → ReadsBytes a (xs ++ ys) c
  read_on a b c xs ys h k = record {
    before = k.before ∙ ap (λ z. z ++ ys) h.before ∙ append_assoc a.before xs ys;
    came = h.came ∙ ap (λ z. xs ++ z) k.came ∙ sym (append_assoc xs ys c.rest);
  }

  -- nothing is read
  pub checks_none : (a : ReadSoFar) (p : Spot) → Checks g numbers classes a p p a
  checks_none a p = record { bytes = []; reads = record { before = sym (append-nil a.before); came = refl }; walked = stays }

  pub checks_on : (a b c : ReadSoFar) (p q r : Spot) → Checks g numbers classes a p q b → Checks g numbers classes b q r c → Checks g numbers classes a p r c
  checks_on a b c p q r h k = record { bytes = h.bytes ++ k.bytes; reads = read_on a b c h.bytes k.bytes h.reads k.reads; walked = walk_on p q r h.bytes k.bytes h.walked k.walked }

  -- a line is read
  pub checks_line : (a b : ReadSoFar) (p q : Spot) (line : List ℕ) → ReadsBytes a line b → IsRightLine g numbers classes p line q → Checks g numbers classes a p q b
  checks_line a b p q line h r = record { bytes = line; reads = h; walked = reads_line stays r }

  -- something is passed by
  pub checks_passed : (a b : ReadSoFar) (p q r : Spot) → Checks g numbers classes a p q b → HasNoLine g numbers classes q r → Checks g numbers classes a p r b
  checks_passed a b p q r h n = record { bytes = h.bytes; reads = h.reads; walked = passes_by h.walked n }

  breaks_on : (p q : Spot) (xs before rest : List ℕ) → Walk p xs q → BreaksFrom g numbers classes q before rest → BreaksFrom g numbers classes p (xs ++ before) rest
  breaks_on p q xs before rest w b = record { spot = b.spot; walked = walk_on p q b.spot xs before w b.walked; has_line = b.has_line; unfinished = b.unfinished; stuck = b.stuck }

  -- what breaks further on
  pub breaks_later : (a b : ReadSoFar) (p q : Spot) (e : TableRefusal) → Checks g numbers classes a p q b → BreaksReading g numbers classes b q e → BreaksReading g numbers classes a p e
  breaks_later a b p q TableTooLong h k = absurd k
  breaks_later a b p q (Text why) h k = absurd k
  breaks_later a b p q Memory h k = tt
  breaks_later a b p q (BadTable line) h (before, rest, e, broken, is) = (
    h.bytes ++ before,
    rest,
    h.reads.came ∙ ap (λ z. h.bytes ++ z) e ∙ sym (append_assoc h.bytes before rest),
    breaks_on p q h.bytes before rest h.walked broken,
    is ∙ ap line_behind (ap (λ z. z ++ before) h.reads.before ∙ append_assoc a.before h.bytes before),
  )

  -- the next line breaks
  pub breaks_here : (a : ReadSoFar) (p : Spot) → ((q : Spot) → HasNoLine g numbers classes p q → ⊥) → (IsBehindAll p → ⊥) → ((line : List ℕ) (q : Spot) → IsRightLine g numbers classes p line q → Begins a.rest line → ⊥) → (line : ℕ) → line ≡ line_behind a.before → BreaksReading g numbers classes a p (BadTable line)
  breaks_here a p has unfinished stuck line is = (
    [],
    a.rest,
    refl,
    record { spot = p; walked = stays; has_line = has; unfinished = unfinished; stuck = stuck },
    is ∙ ap line_behind (sym (append-nil a.before)),
  )
