-- Line feeds that a search in a window of a piece finds.
use Rattle.std.proofs.Common.{◌≡◌, ℕ, ◌+◌, ◌-◌, ◌<◌, ◌≤◌, List, length, take, drop, sym, ap, ◌∙◌, length-drop, get_or-take, arith}
use Rattle.std.specs.Prelude.{slice_index_or}
use Rattle.std.proofs.lemmas.Bool.{eqb-true, eq-eqb}
use Rattle.std.proofs.lemmas.List.{get_or-drop, length-take-le}
use Rattle.memchr.specs.Find.{NoneAfter, NoneBefore, Passes, is_byte}
use Rattle.kex_desks.specs.PartCuts.{IsAfterNext}

module _ (piece : List ℕ) (from to j : ℕ) (low : from ≤ to) (high : to ≤ length piece) where
  abbrev window : List ℕ
  window = take (to - from) (drop from piece)

  long : length window ≡ to - from
  long = length-take-le (to - from) (drop from piece) (let rest = length-drop from piece in omega (arith, low, high, rest))

  -- a byte of the window is one of the piece
  seen : (k : ℕ) → k < to - from → slice_index_or window k 0 ≡ slice_index_or piece (from + k) 0
  seen k lt = get_or-take (to - from) (drop from piece) k 0 lt ∙ get_or-drop from piece k 0

  found : j < to - from → Passes (is_byte 10) window j → slice_index_or piece (from + j + 1 - 1) 0 ≡ 10
  found lt here = ap (λ n. slice_index_or piece n 0) (let e : from + j + 1 - 1 ≡ from + j = omega arith in e) ∙ sym (seen j lt) ∙ eqb-true _ 10 here

  pub next_found : NoneBefore (Passes (is_byte 10) window) 0 (length window) j → Passes (is_byte 10) window j → IsAfterNext piece from (from + j + 1)
  next_found none here =
      let within = none.high in
      let near : j < to - from = omega (arith, within, long) in
      record {
        ahead = omega arith;
        within = omega (arith, near, high);
        line = found near here;
        first = λ k after before is.
            let there : from + (k - from) ≡ k = omega (arith, after) in
            let inside : k - from < to - from = omega (arith, after, before, near) in
            none.before (k - from) (omega arith) (omega (arith, after, before)) (eq-eqb _ 10 (seen (k - from) inside ∙ ap (λ n. slice_index_or piece n 0) there ∙ is));
      }

  pub last_found : NoneAfter (Passes (is_byte 10) window) 0 (length window) j → Passes (is_byte 10) window j → slice_index_or piece (from + j + 1 - 1) 0 ≡ 10
  last_found none here =
      let within = none.high in
      let near : j < to - from = omega (arith, within, long) in
      found near here
