-- The answer, from the rule that was noted.
use Rattle.std.proofs.Common.{◌≡◌, ℕ, List, [], Option, Some, None, Result, Ok, Err, refl, sym, ap, ◌∙◌, subst}
use Rattle.std.specs.Prelude.{IfOk, IfErr}
use Rattle.kex_code.specs.Codes.{IsAmong}
use Rattle.kex_model.specs.declared.program.Node.{Node}
use Rattle.kex_regexp.specs.declared.fault.RegexFault.{RegexFault}
use Rattle.kex_regexp.specs.declared.fault.RegexFault.TheVariants as faults
use Rattle.kex_regexp.specs.Grammar.{Regex}
use Rattle.kex_regexp.specs.Breaks.{Break, BadRegex, BadCount, BadSet, OverLimit, IsLeast, regex_breaks}
use Rattle.kex_regexp.specs.Bodies.{BreaksFirst, IsRefusal, SpellsRegex, fault_of}
use Rattle.kex_regexp.specs.Shown.{ShowsRegex}
use Rattle.kex_regexp.specs.Holding.{HoldsRegex}
use Rattle.kex_regexp.specs.Notes.{least_from}
use Rattle.kex_regexp.proofs.Exact.{exact_regex}
use Rattle.kex_regexp.proofs.Least.{IsRule, is_least, regex_rules}
use Rattle.kex_regexp.proofs.NotedBreaks.{none_least}
use Rattle.kex_regexp.proofs.Viable.{one_tree}
use Rattle.kex_regexp.proofs.WrongBytes.{not_both}

pub read : (res : Result ℕ RegexFault) (node : ℕ) (least : Option Break) (r : Regex) (bytes : List ℕ) (nodes : List Node) (at depth : ℕ) → SpellsRegex r bytes → HoldsRegex r nodes node at → least ≡ least_from None (regex_breaks r at depth) → IfOk res (λ n. (n ≡ node) × (least ≡ None)) → IfOk res (λ n. (q : Regex) × SpellsRegex q bytes × (regex_breaks q at depth ≡ []) × ShowsRegex q nodes n at)
read (Ok n) node least r bytes nodes at depth sp sh l h =
    let none : regex_breaks r at depth ≡ [] = none_least (regex_breaks r at depth) (sym h.1 ∙ l) in
    (r, sp, none, subst (λ (x : ℕ). ShowsRegex r nodes x at) (sym h.0) (exact_regex r nodes node at depth sh none))
read (Err e) node least r bytes nodes at depth sp sh l h = tt

pub rule_refused : (b : Break) (r : Regex) (bytes : List ℕ) (at depth : ℕ) → SpellsRegex r bytes → IsLeast (regex_breaks r at depth) b → IsRefusal bytes at depth (fault_of b)
unfolding IsRule
rule_refused (BadRegex place) r bytes at depth sp l = absurd (regex_rules r at depth (BadRegex place) l.among)
rule_refused (BadCount place) r bytes at depth sp l = (r, sp, l)
rule_refused (BadSet place) r bytes at depth sp l = (r, sp, l)
rule_refused (OverLimit place) r bytes at depth sp l = (r, sp, l)

pub broken : (res : Result ℕ RegexFault) (least : Option Break) (r : Regex) (bytes : List ℕ) (at depth : ℕ) → SpellsRegex r bytes → least ≡ least_from None (regex_breaks r at depth) → IfErr res (λ f. (b : Break) × (f ≡ fault_of b) × (least ≡ Some b)) → IfErr res (IsRefusal bytes at depth)
broken (Ok n) least r bytes at depth sp l h = tt
broken (Err f) least r bytes at depth sp l h = subst (IsRefusal bytes at depth) (sym h.1) (rule_refused h.0 r bytes at depth sp (is_least (regex_breaks r at depth) h.0 (sym l ∙ h.2)))

-- ---- a body that breaks nothing is not refused

pub none_first : (r : Regex) (bytes : List ℕ) (at depth : ℕ) (b : Break) → SpellsRegex r bytes → regex_breaks r at depth ≡ [] → BreaksFirst bytes at depth b → ⊥
none_first r bytes at depth b sp e h =
    let same : regex_breaks h.0 at depth ≡ [] = ap (λ (q : Regex). regex_breaks q at depth) (one_tree bytes h.0 r h.1 sp) ∙ e in
    subst (λ (bs : List Break). IsAmong bs b) same h.2.among

pub not_refused : (fault : RegexFault) (r : Regex) (bytes : List ℕ) (at depth : ℕ) → SpellsRegex r bytes → regex_breaks r at depth ≡ [] → IsRefusal bytes at depth fault → fault ≡ faults.Memory
not_refused faults.Memory r bytes at depth sp e h = refl
not_refused (faults.BadRegex place) r bytes at depth sp e h = absurd (not_both bytes h.0 (r, sp) h.2)
not_refused (faults.BadCount place) r bytes at depth sp e h = absurd (none_first r bytes at depth (BadCount place) sp e h)
not_refused (faults.BadSet place) r bytes at depth sp e h = absurd (none_first r bytes at depth (BadSet place) sp e h)
not_refused (faults.OverLimit place) r bytes at depth sp e h = absurd (none_first r bytes at depth (OverLimit place) sp e h)

pub accepted : (res : Result ℕ RegexFault) (r : Regex) (bytes : List ℕ) (at depth : ℕ) → SpellsRegex r bytes → regex_breaks r at depth ≡ [] → IfErr res (IsRefusal bytes at depth) → IfErr res (λ fault. fault ≡ faults.Memory)
accepted (Ok n) r bytes at depth sp e h = tt
accepted (Err f) r bytes at depth sp e h = not_refused f r bytes at depth sp e h
