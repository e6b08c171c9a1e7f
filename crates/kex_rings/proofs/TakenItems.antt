-- Items that come out of a ring, run by run.
use Rattle.std.proofs.Common.{◌≡◌, ◌+◌, ℕ, List, ◌++◌, length, take, sym, ap, ap₂, subst, ◌∙◌, append_assoc, length-append, arith}
use Rattle.std.proofs.lemmas.List.{map-append}
use Rattle.std.proofs.Math.Seq.{take-append_seam}
use Rattle.rtrb.specs.Ring.{received, known_items}
use Rattle.rtrb.specs.declared.consumer.Consumer.{Consumer}
use Rattle.kex_pipe.specs.Seats.{IsWhole}
use Rattle.kex_pipe.specs.Waiting.{waiting_items}
use Rattle.kex_pipe.specs.declared.inbox.Inbox.{Inbox}
use Rattle.kex_rings.specs.declared.item.Item.{Item}
use Rattle.kex_rings.specs.Items.{item_as, items_as}
use Rattle.kex_rings.specs.Passing.{ComesOut}
use Rattle.kex_rings.proofs.Wholes.{front-whole}
use Rattle.kex_rings.proofs.SentItems.{same-consumer}

-- two fronts of one list that are as long are one
fronts : {A : Type 0} (xs ys us vs : List A) → xs ++ us ≡ ys ++ vs → length xs ≡ length ys → xs ≡ ys
fronts xs ys us vs e long = sym (take-append_seam xs us) ∙ ap₂ (λ n z. take n z) long e ∙ take-append_seam ys vs

module _ {A P : Type 0} where
  pub more-out : (old mid new : Inbox) (ring ring' ring'' : Consumer Item A P) (i j : ℕ) → ComesOut old mid ring ring' i → ComesOut mid new ring' ring'' j → ComesOut old new ring ring'' (i + j)
  more-out old mid new ring ring' ring'' i j p q =
      let all : List Item = p.items ++ q.items in
      let known = known_items ring in
      let known'' = known_items ring'' in
      let cut : waiting_items old ++ items_as all ≡ (waiting_items old ++ items_as p.items) ++ items_as q.items = ap (λ z. waiting_items old ++ z) (map-append item_as p.items q.items) ∙ sym (append_assoc (waiting_items old) (items_as p.items) (items_as q.items)) in
      record {
        same = same-consumer ring ring' ring'' p.same q.same;
        items = all;
        came = q.came ∙ ap (λ z. z ++ q.items) p.came ∙ append_assoc (received ring) p.items q.items;
        count_is = omega (arith, p.count_is, q.count_is, length-append p.items q.items);
        order = (p.order.0 ++ q.order.0, sym (append_assoc known p.order.0 q.order.0) ∙ ap (λ z. z ++ q.order.0) p.order.1 ∙ append_assoc p.items (known_items ring') q.order.0 ∙ ap (λ z. p.items ++ z) q.order.1 ∙ sym (append_assoc p.items q.items known''));
        lies = λ whole.
            let w = subst IsWhole cut whole in
            let before = p.lies (front-whole (waiting_items old ++ items_as p.items) (items_as q.items) w) in
            q.lies (subst (λ z. IsWhole (z ++ items_as q.items)) (sym before) w) ∙ ap (λ z. z ++ items_as q.items) before ∙ sym cut;
      }

  -- what was seen came out
  pub all-out : (old new : Inbox) (ring ring' : Consumer Item A P) (i : ℕ) → ComesOut old new ring ring' i → i ≡ length (known_items ring) → IsWhole (waiting_items old ++ items_as (known_items ring)) → waiting_items new ≡ waiting_items old ++ items_as (known_items ring)
  all-out old new ring ring' i p all =
      let same : p.items ≡ known_items ring = sym (fronts (known_items ring) p.items p.order.0 (known_items ring') p.order.1 (sym all ∙ p.count_is)) in
      subst (λ z. IsWhole (waiting_items old ++ items_as z) → waiting_items new ≡ waiting_items old ++ items_as z) same p.lies
