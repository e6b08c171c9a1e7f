use Rattle.std.proofs.Common.{◌≡◌, ℕ, ◌<◌, ◌++◌, ◌∷◌, [], List, Option, None, length, sym, subst, ◌∙◌, arith}
use Rattle.std.specs.Prelude.{IfSome, MatchOption}
use Rattle.kex_byteset.specs.Classes.{class_count}
use Rattle.kex_code.specs.Codes.{IsAmong}
use Rattle.kex_model.specs.Labelled.{Shape}
use Rattle.kex_machine.specs.Nodes.{Graph, HasClasses}
use Rattle.kex_sst.specs.Parts.{Change}
use Rattle.kex_paths.specs.Nexts.{Outline, HasClass, IsNext, IsOfShape, FollowsTree}
use Rattle.kex_tabfile.specs.Walks.{Target, Told, at_class, class_over}
use Rattle.kex_tabfile.specs.Checking.{AreTargets, ChecksAt, NextBy}
use Rattle.kex_tabfile.proofs.ResultParts.{if_err, is_there, of_some}
use Rattle.kex_tabfile.proofs.ClassSteps.{next_of}
use Rattle.kex_tabfile.proofs.LineSteps.{checks_none, checks_passed}
use Rattle.kex_tabfile.proofs.TableRows.{target}
use Rattle.kex_tabfile.proofs.rows.StageChecker.take_class.Goals as goal

-- what comes of the state's tree: it has but one
next_is : (g : Graph) (classes : List ℕ) → HasClasses g.nodes classes → (state states class : ℕ) → class < class_count classes → (entries : List (ℕ × Outline)) (tree : Outline) → ((h : Graph) (targets : List Target) → AreTargets h entries targets → (s : Shape ℕ) × (tree.machine ≡ h) × IsOfShape tree s × IsAmong targets (target state s)) → (r : Option (Outline × Change)) → IfSome r (λ n. n.0.machine ≡ tree.machine) → ((s : Shape ℕ) (b : ℕ) → IsOfShape tree s → HasClass tree.machine class b → MatchOption r (IsNext tree.machine b s None) (λ n. FollowsTree n.0 b s n.1)) → (told : Told) (s : Shape ℕ) → ChecksAt g entries states state told → IsAmong told.targets (target state s) → NextBy g class s r
next_is g classes classed state states class lt entries tree found r m h told s st i =
    let t = found g told.targets st.known in
    next_of g classes classed class lt tree t.1 s (subst (λ z. IsOfShape tree z) (st.known.one state t.0 s t.3 i) t.2) r m h

pub unwrap-tree-requires : goal.unwrap-tree-requires
unwrap-tree-requires c =
    let k = c.requires.stands in
    is_there c.tree.result _ c.tree.ensures.none (λ none. none c.args.self.now.machine.now k.0.targets k.1 k.2.known k.3)

pub advance_with-requires : goal.advance_with-requires
advance_with-requires c =
    let k = c.requires.stands in
    let t = of_some c.tree.result _ c.unwrap-tree.result c.unwrap-tree.ensures c.tree.ensures.some c.args.self.now.machine.now k.0.targets k.2.known in
    c.requires.machine ∙ sym t.1

pub returns-in_default-clause-right : goal.returns-in_default-clause-right
returns-in_default-clause-right c = λ told s go st i long.
    let self = c.args.self.now in
    let g = self.machine.now in
    let classes = self.partition.now in
    let a = c.args.reader.now in
    let found = of_some c.tree.result _ c.unwrap-tree.result c.unwrap-tree.ensures c.tree.ensures.some in
    let by = next_is g classes c.requires.classes c.args.state self.states c.args.class c.requires.below self.targets c.unwrap-tree.result.now found c.in_ok-next.field-0 c.in_ok-next.ensures.machine c.in_ok-next.ensures.next told s st i in
    let none : NextBy g (length go) s None = subst (λ k. NextBy g k s None) (sym long) (subst (λ z. NextBy g c.args.class s z) c.in_default.is by) in
    (told.targets, st, checks_passed g self.numbers.items classes a a (at_class told s go) (at_class told s go) (at_class told s (go ++ None ∷ [])) (checks_none g self.numbers.items classes a (at_class told s go)) (class_over (omega (arith, long, c.requires.below)) none))

pub returns-in_err-transition-clause-bad : goal.returns-in_err-transition-clause-bad
returns-in_err-transition-clause-bad c =
    let self = c.args.self.now in
    let found = of_some c.tree.result _ c.unwrap-tree.result c.unwrap-tree.ensures c.tree.ensures.some in
    let bad = c.in_err-transition.ensures.bad in
    if_err c.from_residual-in_err-transition.result c.in_err-transition.field-0.0 _ c.from_residual-in_err-transition.ensures.1 (λ told s go st i long.
    let by = next_is self.machine.now self.partition.now c.requires.classes c.args.state self.states c.args.class c.requires.below self.targets c.unwrap-tree.result.now found c.in_ok-next.field-0 c.in_ok-next.ensures.machine c.in_ok-next.ensures.next told s st i in
    bad told s go st long c.requires.below (subst (λ z. NextBy self.machine.now c.args.class s z) c.in-Some.is by))

pub returns-clause-right : goal.returns-clause-right
returns-clause-right c = λ told s go st i long.
    let self = c.args.self.now in
    let found = of_some c.tree.result _ c.unwrap-tree.result c.unwrap-tree.ensures c.tree.ensures.some in
    let by = next_is self.machine.now self.partition.now c.requires.classes c.args.state self.states c.args.class c.requires.below self.targets c.unwrap-tree.result.now found c.in_ok-next.field-0 c.in_ok-next.ensures.machine c.in_ok-next.ensures.next told s st i in
    c.in_ok-transition.ensures.right told s go st long c.requires.below (subst (λ z. NextBy self.machine.now c.args.class s z) c.in-Some.is by)
