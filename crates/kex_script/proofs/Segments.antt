-- Segments of lists of parts.
use Rattle.std.proofs.Common.{◌≡◌, ℕ, zero, suc, ◌+◌, ◌-◌, ◌<◌, ◌≤◌, List, [], ◌∷◌, ◌++◌, Some, None, length, get_or, take, drop, refl, sym, ap, ap₂, subst, ◌∙◌, length-drop, arith}
use Rattle.std.specs.Prelude.{slice_get}
use Rattle.std.proofs.lemmas.List.{take-append-drop, length-take-le, drop-take, take-take, drop-drop, take_rest}
use Rattle.kex_sst.specs.declared.parts.Part.{Part}
use Rattle.kex_sst.specs.declared.parts.Part.TheVariants.{Old}
use Rattle.kex_sst.specs.Parts.{olds}
use Rattle.kex_script.specs.declared.writer.Segment.{Segment}
use Rattle.kex_script.specs.Scripts.{if_old}
use Rattle.kex_script.specs.Pages.{IsSegment, IsJoined}
use Rattle.kex_script.proofs.Olds.{olds-append}

-- the first part, and parts after it up to an old register
pub with_old : (parts : List Part) (r end : ℕ) (d : Part) → 0 < length parts → get_or parts 0 d ≡ Old r → 1 ≤ end → end ≤ length parts → olds (drop 1 (take end parts)) ≡ [] → IsSegment (record { old = Some r; start = 1; end = end }) parts
with_old [] r end d some is ge le plain = absurd (omega arith)
with_old (x ∷ xs) r end d some is ge le plain = record { within = le; some = omega arith; start = ge; old = ap (λ z. z ∷ []) is; plain = plain }

whole_plain : (parts : List Part) (end : ℕ) (d : Part) → 0 < length parts → olds (get_or parts 0 d ∷ []) ≡ [] → 1 ≤ end → olds (drop 1 (take end parts)) ≡ [] → olds (take end parts) ≡ []
whole_plain [] end d some none ge plain = absurd (omega arith)
whole_plain (x ∷ xs) zero d some none ge plain = absurd (omega arith)
whole_plain (x ∷ xs) (suc end) d some none ge plain = olds-append (x ∷ []) (take end xs) ∙ ap₂ (λ y z. y ++ z) none plain

pub without_old : (parts : List Part) (end : ℕ) (d : Part) → 0 < length parts → olds (get_or parts 0 d ∷ []) ≡ [] → 1 ≤ end → end ≤ length parts → olds (drop 1 (take end parts)) ≡ [] → IsSegment (record { old = None; start = 0; end = end }) parts
without_old parts end d some none ge le plain = record { within = le; some = omega (arith, ge); start = omega arith; old = refl; plain = whole_plain parts end d some none ge plain }

-- a segment after the parts that are read
pub joined : (lists : List (List Part)) (number : ℕ) (parts word : List Part) (from : ℕ) (s : Segment) → slice_get lists number ≡ Some (take from parts) → from ≤ length parts → IsSegment s (take (length parts - from) (drop from parts)) → word ≡ take ((from + s.end) - (from + s.start)) (drop (from + s.start) parts) → IsJoined lists number s.old word (take (from + s.end) parts)
joined lists number parts word from s at le f e =
    let h : IsSegment s (drop from parts) = subst (λ z. IsSegment s z) (take_rest parts from) f in
    let to : from + s.end ≡ (from + s.start) + ((from + s.end) - (from + s.start)) = omega (arith, h.start) in
    let fits : from + s.end ≤ length parts = omega (arith, h.within, length-drop from parts, le) in
    let long = length-take-le (from + s.end) parts fits in
    let short = length-take-le from parts le in
    let rest : drop from (take (from + s.end) parts) ≡ take s.end (drop from parts) = drop-take from s.end parts in
    let word' : word ≡ drop s.start (take s.end (drop from parts)) = e ∙ sym (drop-take (from + s.start) ((from + s.end) - (from + s.start)) parts) ∙ ap (λ z. drop (from + s.start) (take z parts)) (sym to) ∙ sym (drop-drop s.start from (take (from + s.end) parts)) ∙ ap (λ z. drop s.start z) rest in
    let front : take from (take (from + s.end) parts) ≡ take from parts = take-take from (from + s.end) parts (omega arith) in
    let old : take s.start (take s.end (drop from parts)) ≡ if_old s.old = take-take s.start s.end (drop from parts) h.start ∙ h.old in
    record {
      front = take from parts;
      before = at;
      shorter = omega (arith, long, short, h.some);
      plain = ap olds word' ∙ h.plain;
      joined =
          sym (take-append-drop from (take (from + s.end) parts))
          ∙ ap₂ (λ y z. y ++ z) front (rest ∙ sym (take-append-drop s.start (take s.end (drop from parts))) ∙ ap₂ (λ y z. y ++ z) old (sym word'));
    }
