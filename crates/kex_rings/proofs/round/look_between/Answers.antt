use Rattle.std.proofs.Common.{◌≡◌, ◌-◌, ◌++◌, ◌∷◌, ◌∙◌, [], refl, sym, ap, ap₂, subst, length, get_or, append_assoc, length-append, arith}
use Rattle.std.proofs.Math.ListN.{set}
use Rattle.kex_rings.specs.declared.ring_seat.RingSeat.{RingSeat}
use Rattle.kex_rings.specs.Ends.{ArePaired}
use Rattle.kex_rings.proofs.Joins.{set-at, get-at, now-beside}
use Rattle.kex_rings.proofs.round.look_between.Goals as goal

pub look_at-requires : goal.look_at-requires
look_at-requires g c =
    let q = c.requires.paired in
    let last = length c.args.front.now - 1 in
    let place : length q.1 ≡ last = omega (arith, ap length q.5, length-append q.1 (q.2 ∷ [])) in
    let first : get_or c.args.front.now last c.index-front-last.result ≡ q.2 = ap (λ z. get_or z last c.index-front-last.result) q.5 ∙ get-at q.1 q.2 [] last c.index-front-last.result place in
    let second : get_or c.args.back.now 0 c.index-back-0.result ≡ q.3 = ap (λ z. get_or z 0 c.index-back-0.result) q.6 in
    (q.0, subst (λ z. ArePaired q.0 z.to (get_or c.args.back.now 0 c.index-back-0.result).from) (sym first) (subst (λ z. ArePaired q.0 q.2.to z.from) (sym second) q.7))

pub returns : goal.returns
returns g c = λ fs bs s n front_is back_is.
    let t = g.T.Turn in
    let last = length c.args.front.now - 1 in
    let place : length fs ≡ last = omega (arith, ap length front_is, length-append fs (s ∷ [])) in
    let first : get_or c.args.front.now last c.index-front-last.result ≡ s = ap (λ z. get_or z last c.index-front-last.result) front_is ∙ get-at fs s [] last c.index-front-last.result place in
    let second : get_or c.args.back.now 0 c.index-back-0.result ≡ n = ap (λ z. get_or z 0 c.index-back-0.result) back_is in
    let f = get_or c.args.front.now last c.index-front-last.result in
    let b = get_or c.args.back.now 0 c.index-back-0.result in
    let s' : RingSeat _ t = record { seat = f.seat; from = f.from; to = c.look_at.new.to; took = f.took } in
    let n' : RingSeat _ t = record { seat = b.seat; from = c.look_at.new.from; to = b.to; took = b.took } in
    now-beside t fs bs s n f b s' n' _ first second
    (ap₂ (λ y z. y ++ z) (ap (λ z. set z last s') front_is ∙ set-at fs s [] last s' place) (ap (λ z. set z 0 n') back_is) ∙ append_assoc fs (s' ∷ []) (n' ∷ bs)) refl refl refl refl c.look_at.ensures.to c.look_at.ensures.from c.look_at.ensures.beside
