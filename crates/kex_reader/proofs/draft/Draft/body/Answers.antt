use Rattle.std.proofs.Common.{◌≡◌, ℕ, ◌∷◌, [], ◌++◌, length, Option, sym, ap, ◌∙◌, subst, refl}
use Rattle.kex_reader.specs.Shown.{Made}
use Rattle.kex_reader.specs.Stands.{Keeps, NotesLeast}
use Rattle.kex_reader.proofs.Drafts.{begins_same, body_within, keeping, Keeps-trans, adds_named, adds_begins}
use Rattle.std.proofs.lemmas.Option.{slice_get_within}
use Rattle.kex_regexp.specs.declared.breaks.Break.{Break}
use Rattle.kex_regexp.specs.Bodies.{IsRefusal}
use Rattle.kex_reader.specs.Checks.{Matched}
use Rattle.kex_reader.proofs.LeastBreak.{never_none, noted_more, noted_same}
use Rattle.kex_reader.proofs.BodyBreaks.{broken_is, first_breaks, no_breaks}
use Rattle.kex_reader.specs.Stands.{LosesNone}
use Rattle.kex_reader.specs.Uses.{NodeNumber}
use Rattle.kex_reader.proofs.Uses.{body_added}
use Rattle.kex_reader.proofs.draft.Draft.body.Goals as goal

pub invariant_of-self : goal.invariant_of-self
invariant_of-self c = let d = c.self.inside in adds_named (length d.names) (length d.registers) d.nodes c.regex.new.into c.in-Ok.ensures.adds c.self.invariant

pub returns-in-Ok-clause-keeps : goal.returns-in-Ok-clause-keeps
returns-in-Ok-clause-keeps c =
    let d = c.self.inside in
    subst (λ (z : Made). Keeps z (record { nodes = c.regex.new.into; names = d.names; registers = d.registers; broken = d.broken })) c.self.view_is
    (keeping (record { nodes = d.nodes; names = d.names; registers = d.registers; broken = d.broken }) (record { nodes = c.regex.new.into; names = d.names; registers = d.registers; broken = d.broken }) (adds_begins d.nodes c.regex.new.into c.in-Ok.ensures.adds) (begins_same d.names) (begins_same d.registers) (λ e. e))

pub returns-in-Ok-clause-within : goal.returns-in-Ok-clause-within
returns-in-Ok-clause-within c = let r = c.in-Ok.ensures.read in body_within r.0 c.regex.new.into c.in-Ok.node c.args.at r.3

pub returns-in-Ok-clause-notes : goal.returns-in-Ok-clause-notes
returns-in-Ok-clause-notes c = λ cs n.
    let r = c.in-Ok.ensures.read in
    let depth : c.in-Some.nested ≡ c.args.depth = c.in-Some.ensures.0 in
    let none = no_breaks c.args.body.now (c.one_tree.ensures.tree c.args.body.now) (c.one_tree.ensures.wrong c.args.body.now) (c.one_tree.ensures.either c.args.body.now) c.args.at c.in-Some.nested r.0 r.1 r.2 in
    noted_same c.self.inside.broken cs (Matched c.args.at c.args.depth c.args.body.now) (subst (λ (z : Made). NotesLeast cs z.broken) (sym c.self.view_is) n) (subst (λ (x : ℕ). (b : Break) → Rattle.kex_reader.specs.Checks.BodyBreaks c.args.body.now c.args.at x b → ⊥) depth none)

pub invariant_of-self-in_default-break_of : goal.invariant_of-self-in_default-break_of
invariant_of-self-in_default-break_of c = let d = c.self.inside in adds_named (length d.names) (length d.registers) d.nodes c.regex.new.into c.regex.ensures.adds c.self.invariant

pub invariant_of-self-2 : goal.invariant_of-self-2
invariant_of-self-2 c = let d = c.self.inside in adds_named (length d.names) (length d.registers) d.nodes c.regex.new.into c.regex.ensures.adds c.self.invariant

pub returns-clause-keeps : goal.returns-clause-keeps
returns-clause-keeps c =
    let d = c.self.inside in
    let first : Keeps c.args.self.now (record { nodes = c.regex.new.into; names = d.names; registers = d.registers; broken = d.broken }) =
    subst (λ (z : Made). Keeps z (record { nodes = c.regex.new.into; names = d.names; registers = d.registers; broken = d.broken })) c.self.view_is
    (keeping (record { nodes = d.nodes; names = d.names; registers = d.registers; broken = d.broken }) (record { nodes = c.regex.new.into; names = d.names; registers = d.registers; broken = d.broken }) (adds_begins d.nodes c.regex.new.into c.regex.ensures.adds) (begins_same d.names) (begins_same d.registers) (λ e. e)) in
    Keeps-trans _ _ _ first (Keeps-trans _ _ _ c.note.ensures.keeps c.in_ok-node.ensures.keeps)

pub returns-clause-within : goal.returns-clause-within
returns-clause-within c = slice_get_within c.add.new.self.nodes c.in_ok-node.node _ c.in_ok-node.ensures.node

pub returns-clause-shows : goal.returns-clause-shows
returns-clause-shows c = λ e. absurd (never_none c.self.inside.broken c.in-Some-break_of.broken (sym (ap (λ (z : Made). z.broken) c.note.ensures.noted) ∙ sym c.in_ok-node.ensures.broken ∙ e))

pub returns-clause-notes : goal.returns-clause-notes
returns-clause-notes c = λ cs n.
    let b = c.in-Some-break_of.broken in
    let body = c.args.body.now in
    let refused : IsRefusal body c.args.at c.args.depth (Rattle.kex_regexp.specs.Bodies.fault_of b) = subst (λ (x : ℕ). IsRefusal body c.args.at x (Rattle.kex_regexp.specs.Bodies.fault_of b)) c.in-Some.ensures.0 (subst (λ f. IsRefusal body c.args.at c.in-Some.nested f) c.in-Some-break_of.ensures.some c.in-Err.ensures.refused) in
    let breaks = broken_is body c.args.at c.args.depth b refused in
    let more = noted_more c.self.inside.broken b cs (Matched c.args.at c.args.depth body) (subst (λ (z : Made). NotesLeast cs z.broken) (sym c.self.view_is) n) breaks (λ other h. first_breaks body (c.one_tree.ensures.tree body) (c.one_tree.ensures.wrong body) (c.one_tree.ensures.either body) c.args.at c.args.depth b other breaks h) in
    subst (λ (o : Option Break). NotesLeast (cs ++ Matched c.args.at c.args.depth body ∷ []) o) (sym (ap (λ (z : Made). z.broken) c.note.ensures.noted) ∙ sym c.in_ok-node.ensures.broken) more

pub returns-in-Ok-clause-held : goal.returns-in-Ok-clause-held
returns-in-Ok-clause-held c =
    let d = c.self.inside in
    subst (λ (z : Made). LosesNone z (record { nodes = c.regex.new.into; names = d.names; registers = d.registers; broken = d.broken }) (λ x. ⊥) (λ x. x ≡ NodeNumber c.in-Ok.node)) c.self.view_is
    (body_added (record { nodes = d.nodes; names = d.names; registers = d.registers; broken = d.broken }) (record { nodes = c.regex.new.into; names = d.names; registers = d.registers; broken = d.broken }) c.in-Ok.node refl refl c.in-Ok.ensures.nodes)

pub returns-clause-held : goal.returns-clause-held
returns-clause-held c = λ e. absurd (never_none c.self.inside.broken c.in-Some-break_of.broken (sym (ap (λ (z : Made). z.broken) c.note.ensures.noted) ∙ sym c.in_ok-node.ensures.broken ∙ e))
