use Rattle.std.proofs.Common.{true, [], ◌∷◌, ◌++◌, get_or, sym, ap, ◌∙◌}
use Rattle.std.specs.Prelude.{bytes_eq, codes}
use Rattle.kex_reader.proofs.ProgramTexts.{among_get, main_here, names_at}
use Rattle.kex_reader.proofs.text.main_alone.Goals as goal

pub bounds-names-definition : goal.bounds-names-definition
bounds-names-definition c = c.requires (get_or c.args.definitions.now c.loop-i.i (record { name = 0; at = 0; root = 0 })) (among_get c.args.definitions.now c.loop-i.i (record { name = 0; at = 0; root = 0 }) c.loop-i-test.true)

pub returns-then-eq : goal.returns-then-eq
returns-then-eq c =
    let here = main_here c.args.names.now c.args.definitions.now c.loop-i.i (record { name = 0; at = 0; root = 0 }) true c.loop-i-test.true (ap (λ x. bytes_eq x (codes "main")) (names_at c.args.names.now _ c.index-names-definition.result (c.requires (get_or c.args.definitions.now c.loop-i.i (record { name = 0; at = 0; root = 0 })) (among_get c.args.definitions.now c.loop-i.i (record { name = 0; at = 0; root = 0 }) c.loop-i-test.true)) c.index-names-definition.is) ∙ ap (λ x. bytes_eq x (codes "main")) (sym c.as_slice.ensures) ∙ ap (bytes_eq c.as_slice.result.now) (sym c.as_slice-in-loop-i.ensures) ∙ sym c.eq.ensures ∙ c.if-eq.true) in
    c.in_ok-push.ensures.items ∙ ap (λ xs. xs ++ record { name = (get_or c.args.definitions.now c.loop-i.i (record { name = 0; at = 0; root = 0 })).name; at = (get_or c.args.definitions.now c.loop-i.i (record { name = 0; at = 0; root = 0 })).at } ∷ []) c.loop-i.invariant.none ∙ sym here ∙ c.loop-i.invariant.rest
