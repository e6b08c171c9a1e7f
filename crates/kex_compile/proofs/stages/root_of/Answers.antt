use Rattle.std.proofs.Common.{rules, tests, ◌≡◌, ℕ, ◌==◌, refl, sym, ap, ◌∙◌}
use Rattle.std.specs.Prelude.{Some, None, find}
use Rattle.std.specs.Option.{option_map}
use Rattle.std.proofs.lemmas.Iterator.{YieldsList-from_slice}
use Rattle.std.proofs.lemmas.Iterator.Search.{find_from_yields_List}
use Rattle.kex_model.specs.Programs.{Grammar}
use Rattle.kex_model.specs.Trees.{root_of}
use Rattle.kex_model.specs.declared.program.Definition.{Definition}
use Rattle.kex_compile.proofs.stages.root_of.Goals as goal

root-none : (P : Grammar) (name : ℕ) → find (λ d. d.name == name) P.definitions ≡ None → 0 ≡ root_of P name
root-none P name e = rw e refl

root-some : (P : Grammar) (name : ℕ) (d : Definition) → find (λ d. d.name == name) P.definitions ≡ Some d → d.root ≡ root_of P name
root-some P name d e = rw e refl

pub returns-in-None : goal.returns-in-None
returns-in-None c =
    let found = find_from_yields_List (λ (d : Definition). d.name == c.args.name) _ _ c.find.result c.find.ensures.ran (YieldsList-from_slice c.args.program.now.definitions cc) (λ x b q k. search (rules, tests)) in
    root-none c.args.program.now c.args.name (sym found ∙ ap (λ o. option_map (λ x. x.now) o) c.in-None.is)

pub returns-in-Some : goal.returns-in-Some
returns-in-Some c =
    let found = find_from_yields_List (λ (d : Definition). d.name == c.args.name) _ _ c.find.result c.find.ensures.ran (YieldsList-from_slice c.args.program.now.definitions cc) (λ x b q k. search (rules, tests)) in
    root-some c.args.program.now c.args.name c.in-Some.definition.now (sym found ∙ ap (λ o. option_map (λ x. x.now) o) c.in-Some.is)
