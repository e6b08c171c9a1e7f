use Rattle.std.proofs.Common.{◌≡◌, ℕ, ◌++◌, ◌∷◌, [], List, sym, subst}
use Rattle.kex_code.specs.Codes.{HasNumber, IsAmong}
use Rattle.kex_compile.specs.declared.lowering.Lowering.{Lowering}
use Rattle.kex_compile.specs.Stages.{AreLowered}
use Rattle.kex_compile.proofs.lowering.Lowering.add.Goals.{in-Some+in_ok-share-in-Some, in-None+in_ok-lower-in-None}
use Rattle.kex_compile.proofs.lowering.Lowering.add.Goals as goal

pub returns-clause-lowered : goal.returns-clause-lowered
returns-clause-lowered c = λ behind split so_far.
    let P = c.args.program.now in
    let now = c.args.self.now in
    let root = c.args.root in
    let roots : c.deref.result.now ≡ now.roots.items = c.deref.ensures.value in
    elim c.match-find_root.branch [
      | in-Some+in_ok-share-in-Some w ↦
          let at : HasNumber now.roots.items root w.in-Some.earlier = subst (λ (z : List ℕ). HasNumber z root w.in-Some.earlier) roots w.in-Some.ensures in
          subst (λ (z : Lowering). AreLowered P (now.roots.items ++ root ∷ []) z.firsts z.lowered) (sym w.self-is) (w.in_ok-share-in-Some.ensures.lowered P root at so_far)
      | in-None+in_ok-lower-in-None w ↦
          let none : IsAmong now.roots.items root → ⊥ = subst (λ (z : List ℕ). IsAmong z root → ⊥) roots w.in-None.ensures in
          subst (λ (z : Lowering). AreLowered P (now.roots.items ++ root ∷ []) z.firsts z.lowered) (sym w.self-is) (w.in_ok-lower-in-None.ensures.lowered behind split none so_far)
    ]
