use Rattle.std.proofs.Common.{◌≡◌, ℕ, Bool, true, List, Some, refl, sym, ap, ◌∙◌, subst, Bor, ◌<◌, length, inl, inr}
use Rattle.std.specs.Prelude.{map, bytes_eq, slice_get}
use Rattle.std.specs.List.{list_any}
use Rattle.std.proofs.lemmas.Slice.Eq.{bytes_eq-Decides}
use Rattle.kex_code.specs.Codes.{Begins, Different}
use Rattle.kex_reader.proofs.NumberedNames.{begins, get_map, one_new, stays_different}
use Rattle.kex_reader.proofs.names.Names.number.Goals as goal

eq : Bor (List ℕ) → Bor (List ℕ) → Bool
eq a b = bytes_eq a.now b.now

same : (a b : Bor (List ℕ)) → eq a b ≡ true → a.now ≡ b.now
unfolding eq
same a b e = (bytes_eq-Decides a.now b.now).0 e

own : (a b : Bor (List ℕ)) → a.now ≡ b.now → eq a b ≡ true
unfolding eq
own a b e = (bytes_eq-Decides a.now b.now).1 e

pub invariant_of-self-in_default : goal.invariant_of-self-in_default
unfolding eq
invariant_of-self-in_default c = subst (λ z. Different (map (λ k. k.now) z)) (sym c.in_ok-number.ensures.keys) (stays_different (λ k. k.now) eq same own (list_any (eq c.args.name) c.self.inside.all.keys) c.self.inside.all.keys c.args.name refl c.self.invariant)

pub invariant_of-self-2 : goal.invariant_of-self-2
unfolding eq
invariant_of-self-2 c = subst (λ z. Different (map (λ k. k.now) z)) (sym c.in_ok-number.ensures.keys) (stays_different (λ k. k.now) eq same own (list_any (eq c.args.name) c.self.inside.all.keys) c.self.inside.all.keys c.args.name refl c.self.invariant)

pub returns-clause-number : goal.returns-clause-number
unfolding eq
returns-clause-number c =
    let k = c.in_ok-number.ensures.stored in
    ap (slice_get (map (λ x. x.now) c.insert_full.new.self.keys)) c.in-Ok.ensures.1 ∙ get_map (λ x. x.now) eq same own c.insert_full.new.self.keys c.in_ok-number.number k.0 k.1 ∙ ap (λ (x : List ℕ). Some x) (sym (same c.args.name k.0 k.2))

pub returns-clause-grown : goal.returns-clause-grown
unfolding eq
returns-clause-grown c =
    let b = begins (λ x. x.now) eq same own (list_any (eq c.args.name) c.self.inside.all.keys) c.self.inside.all.keys c.args.name in
    subst (λ y. Begins (map (λ k. k.now) c.insert_full.new.self.keys) y) c.self.view_is (subst (λ z. Begins (map (λ k. k.now) z) (map (λ k. k.now) c.self.inside.all.keys)) (sym c.in_ok-number.ensures.keys) b)

pub returns-in_default-clause-grown : goal.returns-in_default-clause-grown
unfolding eq
returns-in_default-clause-grown c =
    let b = begins (λ x. x.now) eq same own (list_any (eq c.args.name) c.self.inside.all.keys) c.self.inside.all.keys c.args.name in
    subst (λ y. Begins (map (λ k. k.now) c.insert_full.new.self.keys) y) c.self.view_is (subst (λ z. Begins (map (λ k. k.now) z) (map (λ k. k.now) c.self.inside.all.keys)) (sym c.in_ok-number.ensures.keys) b)

pub returns-clause-added : goal.returns-clause-added
unfolding eq
returns-clause-added c = λ j lt.
    let k = c.in_ok-number.ensures.stored in
    let keys = c.in_ok-number.ensures.keys in
    let b = list_any (eq c.args.name) c.self.inside.all.keys in
    let n = one_new (λ k. k.now) eq same own b c.self.inside.all.keys c.args.name k.0 c.in_ok-number.number refl (sym (ap (λ z. slice_get z c.in_ok-number.number) keys) ∙ k.1) k.2 j (subst (λ z. j < length (map (λ k. k.now) z)) keys lt) in
    elim n [ inl old ↦ inl (subst (λ y. j < length y) c.self.view_is old) | inr is ↦ inr (is ∙ sym c.in-Ok.ensures.1) ]
