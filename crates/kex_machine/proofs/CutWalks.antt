-- A walk on a text is cut before a byte.
use Rattle.std.proofs.Common.{◌≡◌, ℕ, List, [], ◌∷◌, ◌++◌, refl, ap, ap₂}
use Rattle.kex_code.specs.Codes.{bytes_of}
use Rattle.kex_model.specs.Moves.{Move, Step, to_left, to_right, took, chose, went, Allows, code_of, Walk}

module _ {S : Type 0} (moves : S → Move S) where
  -- a walk on w and then b and v, cut before the byte
  pub record Cut (s t : S) (ks : List (Step S)) (w : List ℕ) (b : ℕ) (v : List ℕ) : Type 0 where
    pub front : List (Step S)
    pub at : S
    pub to : S
    pub back : List (Step S)
    pub same : ks ≡ front ++ took b to ∷ back
    pub first : Walk moves s front at
    pub byte : Allows (moves at) (took b to)
    pub last : Walk moves to back t
    pub front_bytes : bytes_of (code_of front) ≡ w
    pub back_bytes : bytes_of (code_of back) ≡ v

  pub cut : (ks : List (Step S)) (s t : S) (w : List ℕ) (b : ℕ) (v : List ℕ) → Walk moves s ks t → bytes_of (code_of ks) ≡ w ++ b ∷ v → Cut s t ks w b v
  cut [] s t [] b v walk e = cc
  cut [] s t (x ∷ w) b v walk e = cc
  cut (took x u ∷ ks) s t [] b v walk e =
      let byte : x ≡ b = cc in
      let rest : bytes_of (code_of ks) ≡ v = cc in
      record { front = []; at = s; to = u; back = ks; same = ap (λ z. took z u ∷ ks) byte; first = refl; byte = rw byte at walk.0; last = walk.1; front_bytes = refl; back_bytes = rest }
  cut (took x u ∷ ks) s t (y ∷ w) b v walk e =
      let byte : x ≡ y = cc in
      let r = cut ks u t w b v walk.1 (cc) in
      record { front = took x u ∷ r.front; at = r.at; to = r.to; back = r.back; same = ap (λ z. took x u ∷ z) r.same; first = (walk.0, r.first); byte = r.byte; last = r.last; front_bytes = ap₂ (λ p q. p ∷ q) byte r.front_bytes; back_bytes = r.back_bytes }
  cut (chose to_left u ∷ ks) s t w b v walk e =
      let r = cut ks u t w b v walk.1 e in
      record { front = chose to_left u ∷ r.front; at = r.at; to = r.to; back = r.back; same = ap (λ z. chose to_left u ∷ z) r.same; first = (walk.0, r.first); byte = r.byte; last = r.last; front_bytes = r.front_bytes; back_bytes = r.back_bytes }
  cut (chose to_right u ∷ ks) s t w b v walk e =
      let r = cut ks u t w b v walk.1 e in
      record { front = chose to_right u ∷ r.front; at = r.at; to = r.to; back = r.back; same = ap (λ z. chose to_right u ∷ z) r.same; first = (walk.0, r.first); byte = r.byte; last = r.last; front_bytes = r.front_bytes; back_bytes = r.back_bytes }
  cut (went f u ∷ ks) s t w b v walk e =
      let r = cut ks u t w b v walk.1 e in
      record { front = went f u ∷ r.front; at = r.at; to = r.to; back = r.back; same = ap (λ z. went f u ∷ z) r.same; first = (walk.0, r.first); byte = r.byte; last = r.last; front_bytes = r.front_bytes; back_bytes = r.back_bytes }
