-- A table that goes on by quiet updates.
use Rattle.std.proofs.Common.{◌≡◌, ◌≢◌, ℕ, zero, suc, ◌+◌, ◌-◌, ◌*◌, ◌/◌, ◌%◌, ◌<◌, ◌≤◌, true, Bool, List, [], ◌∷◌, ◌++◌, Some, length, get_or, take, drop, refl, sym, ap, ap₂, subst, ◌∙◌, append-nil, append_assoc, arith}
use Rattle.std.specs.Prelude.{All, slice_get}
use Rattle.std.proofs.Math.Nat.{mul-div_cancel}
use Rattle.std.proofs.Math.Seq.{take-add}
use Rattle.std.proofs.lemmas.Nat.{div-mul-add, div-add-mod'}
use Rattle.std.proofs.lemmas.Option.{slice_get-get_or}
use Rattle.std.proofs.lemmas.List.{map_push, take_more, take-take, get_or-take, get_or-drop, length-take}
use Rattle.kex_byteset.specs.Classes.{class_at, class_count}
use Rattle.kex_code.specs.declared.symbol.Symbol.{Symbol}
use Rattle.kex_sst.specs.Parts.{parts_code}
use Rattle.kex_sst.specs.Tables.{Transducer, IsTable}
use Rattle.kex_sst.specs.Passes.{next_pass, passes_if}
use Rattle.kex_sst.proofs.Passes.{passes_more}
use Rattle.kex_script.specs.declared.piece.ByteWord.{ByteWord}
use Rattle.kex_script.specs.declared.script.Entry.{Entry}
use Rattle.kex_script.specs.Scripts.{IsScriptOf, change_at, entry_at}
use Rattle.kex_runner.specs.declared.quiet.Quiet.{Quiet}
use Rattle.kex_runner.specs.declared.quiet.Guide.{Guide}
use Rattle.kex_runner.specs.declared.history.NotedUpdate.{NotedUpdate}
use Rattle.kex_runner.specs.Noting.{next_registers, noted_by, registers_after, settled_of, update_of, updates_of}
use Rattle.kex_runner.specs.Following.{Follows, IsTablePlace, pass_at}
use Rattle.kex_runner.specs.Quiet.{GoesQuietly, IsGuide, IsQuiet, StaysAt, quiet_at, staying}
use Rattle.kex_runner.proofs.Notes.{registers_push}
use Rattle.kex_runner.proofs.ByteSteps.{Goes, goes_next, next_by_class, place_in_range, place_next}
use Rattle.kex_runner.proofs.ScriptSteps.{IsStep, told_by, step_of}

some_same : {A : Type 0} {x y : A} → Some x ≡ Some y → x ≡ y
some_same e = cc

-- what is so at each place of a list, and of one more, is so at each place of both
pub push_each : {A : Type 0} (P : ℕ → A → Type 0) (xs : List A) (x : A) → ((k : ℕ) (y : A) → slice_get xs k ≡ Some y → P k y) → P (length xs) x → (k : ℕ) (y : A) → slice_get (xs ++ x ∷ []) k ≡ Some y → P k y
push_each P [] x h p zero y e = subst (λ z. P 0 z) (some_same e) p
push_each P [] x h p (suc k) y e = let bad : ⊥ = cc in absurd bad
push_each P (z ∷ zs) x h p zero y e = h zero y e
push_each P (z ∷ zs) x h p (suc k) y e = push_each (λ i. P (suc i)) zs x (λ i w g. h (suc i) w g) p k y e

-- one note more
pub noted_more : (g : Guide) (base : List (List ByteWord)) (notes : List NotedUpdate) (n : NotedUpdate) → noted_by g.script base (notes ++ n ∷ []) ≡ next_registers (change_at g.script n.update) n.byte (noted_by g.script base notes)
noted_more g base notes n =
    ap (λ z. registers_after (settled_of g.script base) z) (map_push (λ m. update_of g.script m) notes n)
    ∙ registers_push (settled_of g.script base) (updates_of g.script notes) (update_of g.script n)

-- each byte of a front is one at which a row is not left
pub stays_each : (qs : List Quiet) (classes rest : List ℕ) (row n : ℕ) → n ≤ length rest → All (StaysAt qs classes row) (take n rest) → (k : ℕ) → k < n → StaysAt qs classes row (get_or rest k 0)
stays_each qs classes rest row n le h k lt = subst (λ z. StaysAt qs classes row z) (get_or-take n rest k 0 lt) (h k 0 (omega (arith, lt, le, length-take n rest)))

-- a byte of the middle of a piece
pub byte_within : (piece : List ℕ) (from to k : ℕ) → k < length (take (to - from) (drop from piece)) → get_or (take (to - from) (drop from piece)) k 0 ≡ get_or piece (from + k) 0
byte_within piece from to k lt = get_or-take (to - from) (drop from piece) k 0 (omega (arith, lt, length-take (to - from) (drop from piece))) ∙ get_or-drop from piece k 0

module _ (t : Transducer) (g : Guide) (table : IsTable t) (script : IsScriptOf g.script t) (guide : IsGuide t g) where
  -- what a row of a state has at a place
  pub told : (row class : ℕ) (q : Quiet) → row ≡ row / g.width * g.width → class < g.width → slice_get g.quiets.items (row + class) ≡ Some q → (q.row ≡ 4294967295 → ⊥) → IsQuiet (entry_at g.script (row / g.width) class) g.width (length g.quiets.items) q
  told row class q whole lt at some =
      let w = g.width in
      let k = row + class in
      let count = length g.quiets.items in
      let state : k / w ≡ row / w = ap (λ z. (z + class) / w) whole ∙ div-mul-add (row / w) w class lt in
      let rest : k % w ≡ class =
      let d = div-add-mod' k w in
      let p = ap (λ z. z * w) state in
      omega (arith, d, p, whole) in
      subst (λ y. IsQuiet (entry_at g.script y class) w count q) state (subst (λ z. IsQuiet (entry_at g.script (k / w) z) w count q) rest (guide.quiet k q at some))

  -- where the row begins of the target
  pub target : (e : Entry) (q : Quiet) → IsQuiet e g.width (length g.quiets.items) q → q.row / g.width ≡ e.target
  target e q h = ap (λ z. z / g.width) h.row ∙ mul-div_cancel e.target guide.some

  pub whole_next : (e : Entry) (q : Quiet) → IsQuiet e g.width (length g.quiets.items) q → q.row ≡ q.row / g.width * g.width
  whole_next e q h = h.row ∙ ap (λ z. z * g.width) (sym (target e q h))

  module _ (base : List (List ByteWord)) (notes : List NotedUpdate) (row class b : ℕ) (stays : Bool) (q : Quiet) (h : IsQuiet (entry_at g.script (row / g.width) class) g.width (length g.quiets.items) q) (lt : class < class_count t.classes) where
    step : IsStep g.script t (row / g.width) class (entry_at g.script (row / g.width) class)
    step = step_of g.script t (row / g.width) class (entry_at g.script (row / g.width) class) script lt refl h.goes

    noted : noted_by g.script base (notes ++ record { update = q.update; byte = b; stays = stays } ∷ []) ≡ next_registers (change_at g.script (entry_at g.script (row / g.width) class).update) b (noted_by g.script base notes)
    noted = noted_more g base notes (record { update = q.update; byte = b; stays = stays }) ∙ ap (λ z. next_registers (change_at g.script z) b (noted_by g.script base notes)) h.update

    pub place_quiet : IsTablePlace t (row / g.width) (noted_by g.script base notes) → IsTablePlace t (q.row / g.width) (noted_by g.script base (notes ++ record { update = q.update; byte = b; stays = stays } ∷ []))
    place_quiet p =
        let e = entry_at g.script (row / g.width) class in
        subst (λ z. IsTablePlace t z (noted_by g.script base (notes ++ record { update = q.update; byte = b; stays = stays } ∷ []))) (sym (target e q h))
        (place_next t (row / g.width) class (noted_by g.script base notes) (told_by g.script e) (noted_by g.script base (notes ++ record { update = q.update; byte = b; stays = stays } ∷ [])) b table step.at noted)

    pub goes_quiet : (state : ℕ) (registers : List (List Symbol)) (piece : List ℕ) (i : ℕ) → i < length piece → b ≡ get_or piece i 0 → b < 256 → class ≡ class_at t.classes b → Goes t state registers piece i (row / g.width) (noted_by g.script base notes) [] [] → Goes t state registers piece (i + 1) (q.row / g.width) (noted_by g.script base (notes ++ record { update = q.update; byte = b; stays = stays } ∷ [])) [] []
    goes_quiet state registers piece i less is byte of f =
        let e = entry_at g.script (row / g.width) class in
        let regs = noted_by g.script base notes in
        let regs' = noted_by g.script base (notes ++ record { update = q.update; byte = b; stays = stays } ∷ []) in
        subst (λ z. Goes t state registers piece (i + 1) z regs' [] []) (sym (target e q h))
        (goes_next t state registers piece i (row / g.width) regs [] [] b less is (told_by g.script e) regs' [] (next_by_class t (row / g.width) b class table byte of ∙ step.at) noted (ap (λ z. parts_code regs b z) (sym (step.update.silent.0 h.silent))) f)

  -- a quiet update leads to a state of the table
  pub target_few : (row class : ℕ) (q : Quiet) → IsQuiet (entry_at g.script (row / g.width) class) g.width (length g.quiets.items) q → class < class_count t.classes → q.row / g.width < 4294967296
  target_few row class q h lt =
      let e = entry_at g.script (row / g.width) class in
      let step = step_of g.script t (row / g.width) class e script lt refl h.goes in
      let less = place_in_range (place_next t (row / g.width) class [] (told_by g.script e) (next_registers (change_at g.script e.update) 0 []) 0 table step.at refl) in
      omega (arith, less, table.few, target e q h)

  -- along one byte more, whatever registers hold
  pub quietly_more : (row class b state : ℕ) (q : Quiet) (piece : List ℕ) (i : ℕ) → IsQuiet (entry_at g.script (row / g.width) class) g.width (length g.quiets.items) q → class < class_count t.classes → i < length piece → b ≡ get_or piece i 0 → b < 256 → class ≡ class_at t.classes b → GoesQuietly t state (row / g.width) (take i piece) → GoesQuietly t state (q.row / g.width) (take (i + 1) piece)
  quietly_more row class b state q piece i h lt less is byte of f = λ c held.
      let e = entry_at g.script (row / g.width) class in
      let step = step_of g.script t (row / g.width) class e script lt refl h.goes in
      let before = f c held in
      let regs = before.0 in
      let r = told_by g.script e in (
        next_registers r.update b regs,
        ap (λ z. passes_if t (Some (pass_at state c held)) z) (take_more piece i 0 less ∙ ap (λ z. take i piece ++ z ∷ []) (sym is))
            ∙ passes_more t (Some (pass_at state c held)) (take i piece) (b ∷ [])
            ∙ ap (λ z. passes_if t z (b ∷ [])) before.1
            ∙ ap (λ z. passes_if t (next_pass z b (pass_at (row / g.width) c regs)) []) (next_by_class t (row / g.width) b class table byte of ∙ step.at)
            ∙ ap₂ (λ x y. Some (pass_at x y (next_registers r.update b regs))) (sym (target e q h)) (ap (λ z. c ++ parts_code regs b z) (step.update.silent.0 h.silent) ∙ append-nil c),
      )

  -- a state stays along bytes at which its row is not left
  module _ (base : List (List ByteWord)) (notes : List NotedUpdate) (row : ℕ) (whole : row ≡ row / g.width * g.width) (some : row ≢ 4294967295) (inside : row + g.width ≤ length g.quiets.items) where
    -- what the registers are then
    abbrev pub after : List ℕ → List (List Symbol)
    after bytes = noted_by g.script base (notes ++ staying g.quiets.items t.classes row bytes)

    abbrev quiet : ℕ → Quiet
    quiet b = quiet_at g.quiets.items t.classes row b

    after_more : (rest : List ℕ) (n : ℕ) → n < length rest → noted_by g.script base ((notes ++ staying g.quiets.items t.classes row (take n rest)) ++ record { update = (quiet (get_or rest n 0)).update; byte = get_or rest n 0; stays = true } ∷ []) ≡ after (take (n + 1) rest)
    after_more rest n less =
        let run : List ℕ → List NotedUpdate = λ bytes. staying g.quiets.items t.classes row bytes in
        let b = get_or rest n 0 in
        let note : NotedUpdate = record { update = (quiet b).update; byte = b; stays = true } in
        ap (λ z. noted_by g.script base z)
        (append_assoc notes (run (take n rest)) (note ∷ [])
        ∙ ap (λ z. notes ++ z) (sym (ap run (take_more rest n 0 less) ∙ map_push (λ x. record { update = (quiet x).update; byte = x; stays = true }) (take n rest) b)))

    after_none : noted_by g.script base notes ≡ after []
    after_none = ap (λ z. noted_by g.script base z) (sym (append-nil notes))

    told_of : (b : ℕ) → StaysAt g.quiets.items t.classes row b → IsQuiet (entry_at g.script (row / g.width) (class_at t.classes b)) g.width (length g.quiets.items) (quiet b)
    told_of b stays =
        let lt : class_at t.classes b < g.width = omega (arith, stays.0, guide.wide) in
        told row (class_at t.classes b) (quiet b) whole lt (slice_get-get_or g.quiets.items (row + class_at t.classes b) (record { row = 0; update = 0 }) (omega (arith, lt, inside))) (λ e. some (sym stays.1 ∙ e))

    module _ (state : ℕ) (registers : List (List Symbol)) (piece rest : List ℕ) (i : ℕ) (fits : i + length rest ≤ length piece) (at : (k : ℕ) → k < length rest → get_or rest k 0 ≡ get_or piece (i + k) 0) (bytes : (k : ℕ) → k < length rest → get_or rest k 0 < 256) where
      pub stays_on : (n : ℕ) → n ≤ length rest → ((k : ℕ) → k < n → StaysAt g.quiets.items t.classes row (get_or rest k 0)) → IsTablePlace t (row / g.width) (noted_by g.script base notes) → Goes t state registers piece i (row / g.width) (noted_by g.script base notes) [] []
          → IsTablePlace t (row / g.width) (after (take n rest)) × Goes t state registers piece (i + n) (row / g.width) (after (take n rest)) [] []
      stays_on zero few of p f = (
        subst (λ z. IsTablePlace t (row / g.width) z) after_none p,
        subst (λ z. Goes t state registers piece z (row / g.width) (after []) [] []) (omega arith) (subst (λ z. Goes t state registers piece i (row / g.width) z [] []) after_none f),
      )
      stays_on (suc n) few of p f =
          let so_far = stays_on n (omega (arith, few)) (λ k less. of k (omega (arith, less))) p f in
          let less : n < length rest = omega (arith, few) in
          let b = get_or rest n 0 in
          let stays = of n (omega arith) in
          let q = quiet b in
          let class = class_at t.classes b in
          let h = told_of b stays in
          let ns = notes ++ staying g.quiets.items t.classes row (take n rest) in
          let on : n + 1 ≡ suc n = omega arith in
          let there : noted_by g.script base (ns ++ record { update = q.update; byte = b; stays = true } ∷ []) ≡ after (take (suc n) rest) = after_more rest n less ∙ ap (λ z. after (take z rest)) on in
          let back : q.row / g.width ≡ row / g.width = ap (λ z. z / g.width) stays.1 in
          let placed = place_quiet base ns row class b true q h stays.0 so_far.0 in
          let gone = goes_quiet base ns row class b true q h stays.0 state registers piece (i + n) (omega (arith, fits, less)) (at n less) (bytes n less) refl so_far.1 in
          let next : i + n + 1 ≡ i + suc n = omega arith in (
            subst (λ z. IsTablePlace t z (after (take (suc n) rest))) back (subst (λ z. IsTablePlace t (q.row / g.width) z) there placed),
            subst (λ z. Goes t state registers piece z (row / g.width) (after (take (suc n) rest)) [] []) next
                (subst (λ z. Goes t state registers piece (i + n + 1) z (after (take (suc n) rest)) [] []) back
                (subst (λ z. Goes t state registers piece (i + n + 1) (q.row / g.width) z [] []) there gone)),
          )

-- a piece is followed on after its front
pub goes_on : (t : Transducer) (state : ℕ) (registers : List (List Symbol)) (piece rest : List ℕ) (i n : ℕ) (state' : ℕ) (registers' : List (List Symbol)) (state'' : ℕ) (registers'' : List (List Symbol)) (before after : List Symbol) → rest ≡ drop i piece → Goes t state registers piece i state' registers' before after → Follows t state' registers' (take n rest) n state'' registers'' [] [] → Goes t state registers piece (i + n) state'' registers'' before after
goes_on t state registers piece rest i n state' registers' state'' registers'' before after behind h f = record {
  more = h.more;
  code = h.code;
  goes = λ c.
      let nothing : f.more ≡ [] = sym f.code in
      ap (λ z. passes_if t (Some (pass_at state c registers)) z) (take-add i n piece ∙ ap (λ z. take i piece ++ take n z) (sym behind))
      ∙ passes_more t (Some (pass_at state c registers)) (take i piece) (take n rest)
      ∙ ap (λ z. passes_if t z (take n rest)) (h.goes c)
      ∙ ap (λ z. passes_if t (Some (pass_at state' (c ++ h.more) registers')) z) (sym (take-take n n rest (omega arith)))
      ∙ f.goes (c ++ h.more)
      ∙ ap (λ z. Some (pass_at state'' z registers'')) (ap (λ z. (c ++ h.more) ++ z) nothing ∙ append-nil (c ++ h.more));
}
