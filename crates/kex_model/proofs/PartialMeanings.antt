-- A part grows with the code, up to the meaning.
use Rattle.std.proofs.Common.{◌≡◌, ℕ, zero, suc, List, [], ◌∷◌, ◌++◌, Option, Some, None, refl, sym, ap, ◌∙◌, append_assoc, append-nil}
use Rattle.kex_model.specs.Moves.{symbol_of, turn_side}
use Rattle.kex_model.specs.Programs.{Grammar}
use Rattle.kex_model.specs.declared.program.Kind.{Kind}
use Rattle.kex_model.specs.declared.program.Kind.TheVariants.{Rep}
use Rattle.kex_code.specs.declared.symbol.Symbol.{Symbol}
use Rattle.kex_code.specs.declared.symbol.Symbol.TheVariants.{L, R, Byte}
use Rattle.kex_code.specs.Codes.{Begins}
use Rattle.kex_code.specs.Registers.{Registers}
use Rattle.kex_model.specs.Trees.{kind_at, less, Tree, turn, IsTree, one, lit, one_byte, call, seq, alt_left, alt_right, needed, again, end, mute, at_register, write_register, set_register, add_register, code, Meaning, then_also, meaning, PartMeaning, part_behind, go_on, then_part, muted_part, put_whole, kept_part, part_meaning}

abbrev pub GrownBy : Option (List Symbol) → PartMeaning → PartMeaning → List Symbol → Type 0
GrownBy None p q m = Begins q.bytes p.bytes
GrownBy (Some r) p q m = (q.bytes ≡ p.bytes) × (q.registers ≡ p.registers) × (q.rest ≡ Some (r ++ m))

-- q is p with m more of the code
abbrev pub Grown : PartMeaning → PartMeaning → List Symbol → Type 0
Grown p q m = GrownBy p.rest p q m

then_longer : (q : PartMeaning) (g : List Symbol → Registers → PartMeaning) → Begins (then_part q g).bytes q.bytes
then_longer q g = cases q.rest
  where
    cases : (o : Option (List Symbol)) → Begins (go_on q.bytes q.registers o g).bytes q.bytes
    cases None = ([], sym (append-nil q.bytes))
    cases (Some c) = ((g c q.registers).bytes, refl)

begins_trans : (a b c : List ℕ) → Begins c b → Begins b a → Begins c a
begins_trans a b c p q = (q.0 ++ p.0, p.1 ∙ ap (λ z. z ++ p.0) q.1 ∙ append_assoc a q.0 p.0)

go_grown : (bytes : List ℕ) (regs : Registers) (o : Option (List Symbol)) (q : PartMeaning) (f g : List Symbol → Registers → PartMeaning) (m : List Symbol) → GrownBy o (record { bytes = bytes; registers = regs; rest = o }) q m → ((r : List Symbol) → Grown (f r regs) (g (r ++ m) regs) m) → Grown (go_on bytes regs o f) (then_part q g) m
go_grown bytes regs None q f g m h next = begins_trans bytes q.bytes (then_part q g).bytes (then_longer q g) h
go_grown bytes regs (Some r) q f g m h next = rw (h.0, h.1, h.2) (cases (f r regs).rest (next r))
  where
    x : PartMeaning
    x = f r regs

    y : PartMeaning
    y = g (r ++ m) regs

    cases : (o : Option (List Symbol)) → GrownBy o x y m → GrownBy o (record { bytes = bytes ++ x.bytes; registers = x.registers; rest = x.rest }) (record { bytes = bytes ++ y.bytes; registers = y.registers; rest = y.rest }) m
    cases None h = (h.0, ap (λ z. bytes ++ z) h.1 ∙ sym (append_assoc bytes x.bytes h.0))
    cases (Some c) h = (ap (λ z. bytes ++ z) h.0, h.1, h.2)

then_grown : (p q : PartMeaning) (f g : List Symbol → Registers → PartMeaning) (m : List Symbol) → Grown p q m → ((r : List Symbol) → Grown (f r p.registers) (g (r ++ m) p.registers) m) → Grown (then_part p f) (then_part q g) m
then_grown p q f g m h next = go_grown p.bytes p.registers p.rest q f g m h next

behind_grown : (x : Symbol) (c m : List Symbol) (regs : Registers) (f g : List Symbol → PartMeaning) → ((r : List Symbol) → Grown (f r) (g (r ++ m)) m) → Grown (part_behind (x ∷ []) c regs f) (part_behind (x ∷ []) (c ++ m) regs g) m
behind_grown x [] m regs f g next = ((part_behind (x ∷ []) m regs g).bytes, refl)
behind_grown x (y ∷ c) m regs f g next = next c

muted_grown : (p q : PartMeaning) (m : List Symbol) → Grown p q m → Grown (muted_part p) (muted_part q) m
muted_grown p q m h = cases p.rest h
  where
    cases : (o : Option (List Symbol)) → GrownBy o p q m → GrownBy o (muted_part p) (muted_part q) m
    cases None h = ([], refl)
    cases (Some c) h = (refl, h.1, h.2)

kept_grown : (n : ℕ) (p q : PartMeaning) (m : List Symbol) → Grown p q m → Grown (kept_part n p) (kept_part n q) m
kept_grown n p q m h = cases p.rest h
  where
    cases : (o : Option (List Symbol)) → GrownBy o p q m → GrownBy o (record { bytes = []; registers = put_whole p.registers n p.bytes o; rest = p.rest }) (kept_part n q) m
    cases None h = ([], refl)
    cases (Some c) h = (refl, rw (h.0, h.1, h.2), h.2)

module _ (P : Grammar) where
  pub part_grows : {k : Kind} {t : Tree} (c m : List Symbol) (regs : Registers) → IsTree P k t → Grown (part_meaning P k t c regs) (part_meaning P k t (c ++ m) regs) m
  part_grows c m regs one = (refl, refl, refl)
  part_grows c m regs lit = (refl, refl, refl)
  part_grows c m regs (one_byte {b = b} i) = behind_grown (Byte b) c m regs _ _ (λ r. (refl, refl, refl))
  part_grows c m regs (call a) = part_grows c m regs a
  part_grows c m regs (seq {l = l} {r = r} {a = s} {b = t} a b) = then_grown (part_meaning P (kind_at P l) s c regs) (part_meaning P (kind_at P l) s (c ++ m) regs) _ _ m (part_grows c m regs a) (λ d. part_grows d m _ b)
  part_grows c m regs (alt_left a) = behind_grown L c m regs _ _ (λ d. part_grows d m regs a)
  part_grows c m regs (alt_right a) = behind_grown R c m regs _ _ (λ d. part_grows d m regs a)
  part_grows c m regs (needed {body = n} {lazy = lazy} {a = s} a b) = then_grown (part_meaning P (kind_at P n) s c regs) (part_meaning P (kind_at P n) s (c ++ m) regs) _ _ m (part_grows c m regs a) (λ d. part_grows d m _ b)
  part_grows c m regs (again {body = n} {lazy = lazy} {a = s} i a b) = behind_grown L c m regs _ _ (λ d. then_grown (part_meaning P (kind_at P n) s d regs) (part_meaning P (kind_at P n) s (d ++ m) regs) _ _ m (part_grows d m regs a) (λ e. part_grows e m _ b))
  part_grows c m regs (end {max = None} {lazy = lazy}) = behind_grown R c m regs _ _ (λ d. (refl, refl, refl))
  part_grows c m regs (end {max = Some zero} {lazy = lazy}) = (refl, refl, refl)
  part_grows c m regs (end {max = Some (suc n)} {lazy = lazy}) = behind_grown R c m regs _ _ (λ d. (refl, refl, refl))
  part_grows c m regs (mute {n = n} {a = s} a) = muted_grown (part_meaning P (kind_at P n) s c regs) (part_meaning P (kind_at P n) s (c ++ m) regs) m (part_grows c m regs a)
  part_grows c m regs (at_register {r = r} {n = n} {a = s} a) = kept_grown r (part_meaning P (kind_at P n) s c regs) (part_meaning P (kind_at P n) s (c ++ m) regs) m (part_grows c m regs a)
  part_grows c m regs write_register = (refl, refl, refl)
  part_grows c m regs set_register = (refl, refl, refl)
  part_grows c m regs add_register = (refl, refl, refl)

  abbrev pub finished : Meaning → List Symbol → PartMeaning
  finished x m = record { bytes = x.bytes; registers = x.registers; rest = Some m }

  then_finished : (p : PartMeaning) (f : List Symbol → Registers → PartMeaning) (x : Meaning) (g : Registers → Meaning) (c m : List Symbol) → p ≡ finished x c → f c x.registers ≡ finished (g x.registers) m → then_part p f ≡ finished (then_also x g) m
  then_finished p f x g c m e h = rw e (ap (λ z. record { bytes = x.bytes ++ z.bytes; registers = z.registers; rest = z.rest }) h)

  -- the part of a whole code is the meaning
  pub part_whole : {k : Kind} {t : Tree} (m : List Symbol) (regs : Registers) → IsTree P k t → part_meaning P k t (code P k t ++ m) regs ≡ finished (meaning P k t regs) m
  part_whole m regs one = refl
  part_whole m regs lit = refl
  part_whole m regs (one_byte i) = refl
  part_whole m regs (call a) = part_whole m regs a
  part_whole m regs (seq {l = l} {r = r} {a = s} {b = t} a b) = rw append_assoc (then_finished (part_meaning P (kind_at P l) s (code P (kind_at P l) s ++ (code P (kind_at P r) t ++ m)) regs) (part_meaning P (kind_at P r) t) (meaning P (kind_at P l) s regs) (meaning P (kind_at P r) t) (code P (kind_at P r) t ++ m) m (part_whole (code P (kind_at P r) t ++ m) regs a) (part_whole m _ b))
  part_whole m regs (alt_left a) = part_whole m regs a
  part_whole m regs (alt_right a) = part_whole m regs a
  part_whole m regs (needed {body = n} {min = min} {max = max} {lazy = lazy} {a = s} {rest = t} a b) =
      let d = code P (Rep n min (less max) lazy) t ++ m in
      ap (λ z. part_meaning P (Rep n (suc min) max lazy) (turn s t) z regs) (append_assoc (code P (kind_at P n) s) (code P (Rep n min (less max) lazy) t) m)
      ∙ then_finished (part_meaning P (kind_at P n) s (code P (kind_at P n) s ++ d) regs) (part_meaning P (Rep n min (less max) lazy) t) (meaning P (kind_at P n) s regs) (meaning P (Rep n min (less max) lazy) t) d m (part_whole d regs a) (part_whole m _ b)
  part_whole m regs (again {body = n} {max = max} {lazy = lazy} {a = s} {rest = t} i a b) =
      let d = code P (Rep n zero (less max) lazy) t ++ m in
      ap (λ z. part_meaning P (Rep n zero max lazy) (turn s t) (symbol_of (turn_side lazy) ∷ z) regs) (append_assoc (code P (kind_at P n) s) (code P (Rep n zero (less max) lazy) t) m)
      ∙ then_finished (part_meaning P (kind_at P n) s (code P (kind_at P n) s ++ d) regs) (part_meaning P (Rep n zero (less max) lazy) t) (meaning P (kind_at P n) s regs) (meaning P (Rep n zero (less max) lazy) t) d m (part_whole d regs a) (part_whole m _ b)
  part_whole m regs (end {max = None} {lazy = lazy}) = refl
  part_whole m regs (end {max = Some zero} {lazy = lazy}) = refl
  part_whole m regs (end {max = Some (suc n)} {lazy = lazy}) = refl
  part_whole m regs (mute a) = ap muted_part (part_whole m regs a)
  part_whole m regs (at_register {r = r} a) = ap (kept_part r) (part_whole m regs a)
  part_whole m regs write_register = refl
  part_whole m regs set_register = refl
  part_whole m regs add_register = refl
