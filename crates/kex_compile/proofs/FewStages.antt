-- A program that a text spells has no more stages than may be named: one past those breaks a limit.
use Rattle.std.proofs.Common.{◌≡◌, ◌+◌, ◌^◌, ◌<◌, ◌≤◌, ℕ, zero, suc, Bool, true, false, arith, List, [], ◌∷◌, ◌⊎◌, inl, inr, ⊎_elim, refl, sym, ap, subst, length}
use Rattle.std.proofs.lemmas.List.{length-map}
use Rattle.std.specs.Prelude.{None, bytes_eq, codes, get_or, if◌then◌else◌}
use Rattle.kex_code.specs.Codes.{IsAmong}
use Rattle.kex_model.specs.Programs.{Grammar}
use Rattle.kex_model.specs.declared.program.Definition.{Definition as Root}
use Rattle.kex_model.specs.Trees.{root_of}
use Rattle.kex_model.specs.declared.program.Start.{Start}
use Rattle.kex_model.proofs.Shapes.{among_left}
use Rattle.kex_regexp.specs.declared.breaks.Break.{Break}
use Rattle.kex_regexp.specs.declared.breaks.Break.TheVariants.{OverLimit}
use Rattle.kex_reader.specs.Syntax.{Header, NoStart, Stages, header}
use Rattle.kex_reader.specs.Checks.{Staged, SomeBreaks, most_stages, stage_checks, header_checks, definition_checks}
use Rattle.kex_reader.specs.Shown.{Made, ShowsStages}
use Rattle.kex_reader.specs.Spelling.{ShowsHeader, Spells, main_stage, offset}
use Rattle.kex_machine.specs.Nodes.{Graph}
use Rattle.kex_compile.specs.Compiled.{HasMachines}
use Rattle.kex_compile.specs.Stages.{roots_of}
use Rattle.kex_compile.proofs.FirstStages.{as-many}

shown : (ns : List (List ℕ)) (made : Made) (at : ℕ → ℕ) (ss : List Start) (i : ℕ) → ShowsStages ns made at ss i → length ss ≡ length ns
unfolding ShowsStages
shown [] made at [] i h = refl
shown (n ∷ ns) made at (s ∷ ss) i h = ap suc (shown ns made at ss (i + 2) h.2)
shown [] made at (s ∷ ss) i h = absurd h
shown (n ∷ ns) made at [] i h = absurd h

-- where more than k are left to be named, one of them has the number k further on
numbered : (k : ℕ) (ns : List (List ℕ)) (at : ℕ → ℕ) (i number : ℕ) → k < length ns → (place : ℕ) × IsAmong (stage_checks ns at i number) (Staged place (number + k))
unfolding stage_checks
numbered k [] at i number lt = absurd (omega arith)
numbered zero (n ∷ ns) at i number lt = (at i, inl (ap (λ z. Staged (at i) z) (let e : number ≡ number + 0 = omega arith in e)))
numbered (suc k) (n ∷ ns) at i number lt =
    let x = numbered k ns at (i + 2) (suc number) (omega arith) in
    (x.0, inr (subst (λ z. IsAmong (stage_checks ns at (i + 2) (suc number)) (Staged x.0 z)) (let e : suc number + k ≡ number + suc k = omega arith in e) x.1))

alone : (names : List (List ℕ)) (ds : List Root) → length (main_stage names ds) ≤ 1
alone names [] = omega arith
alone names (d ∷ ds) = by (bytes_eq (get_or names d.name []) (codes "main")) (alone names ds)
  where
    by : (b : Bool) → length (main_stage names ds) ≤ 1 → length (if b then record { name = d.name; at = d.at } ∷ [] else main_stage names ds) ≤ 1
    by true rest = omega arith
    by false rest = rest

more_or_not : (n : ℕ) → (n ≤ most_stages) ⊎ (most_stages < n)
more_or_not n = grind arith

few : (head : Header) (made : Made) (at : ℕ → ℕ) (P : Grammar) → ShowsHeader head made at P → ((b : Break) → SomeBreaks (header_checks head at) b → ⊥) → length P.stages ≤ most_stages
unfolding header_checks
few NoStart made at P shows none = let one : length P.stages ≤ 1 = subst (λ z. length z ≤ 1) (sym shows) (alone P.names P.definitions) in omega arith
few (Stages n ns) made at P shows none =
    let long : length P.stages ≡ length (n ∷ ns) = shown (n ∷ ns) made at P.stages 2 shows in
    ⊎_elim (λ le. le)
    (λ lt.
    let x = numbered most_stages (n ∷ ns) at 2 1 (omega (arith, long, lt)) in
    absurd (none (OverLimit x.0) (Staged x.0 (most_stages + 1), x.1, (refl, refl))))
    (more_or_not (length P.stages))

pub few_stages : (text : List ℕ) (P : Grammar) → Spells text P → length P.stages ≤ most_stages
few_stages text P h =
    let at = offset text h.tokens in
    few h.tree.header (record { nodes = P.nodes; names = P.names; registers = h.registers; broken = None }) at P h.shown.stages
    (λ b s. h.within b (s.0, among_left (header_checks h.tree.header at) (definition_checks h.tree.definitions at (length (header h.tree.header))) s.0 s.1, s.2))

-- so it has no more machines
pub few_machines : (text : List ℕ) (ms : List Graph) → HasMachines text ms → length ms < 2 ^ 32
few_machines text ms h =
    let P = h.program in
    let few : length P.stages ≤ most_stages = few_stages text P h.spells in
    omega (arith, few, as-many P (roots_of P) ms h.stages, length-map P.stages (λ (s : Start). root_of P s.name))
