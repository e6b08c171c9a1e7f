-- What the survivors agree on grows with the text.
use Rattle.std.proofs.Common.{◌≡◌, ℕ, List, [], ◌∷◌, ◌++◌, ◌⊎◌, inl, ⊎_elim, refl, sym, ap, ap₂, subst, ◌∙◌, append-nil}
use Rattle.std.proofs.lemmas.List.{append_cancel_right}
use Rattle.kex_code.specs.declared.symbol.Symbol.{Symbol}
use Rattle.kex_code.specs.declared.symbol.Symbol.TheVariants.{Byte}
use Rattle.kex_code.specs.Codes.{bytes_of, Begins, Before}
use Rattle.kex_model.specs.Moves.{Move, Step, to_left, to_right, took, chose, went, Allows, reads, code_of, Walk, IsWaiting}
use Rattle.kex_model.specs.Survivors.{NoReturn, IsPath, Reaches, LeadsToEnd, Survives, IsViable, Agreed, Greedy}
use Rattle.kex_model.proofs.Walks.{bytes_of-append, one_walk, nothing_after}
use Rattle.kex_model.proofs.Derivations.{code_of-append, walk-append}
use Rattle.kex_model.proofs.Orders.{begins_trans, before_cut}

module _ {S : Type 0} (moves : S → Move S) where
  -- a walk on w and then b and v, cut before the byte b
  pub record Cut (seen : List S) (s t : S) (ks : List (Step S)) (w : List ℕ) (b : ℕ) (v : List ℕ) : Type 0 where
    pub front : List (Step S)
    pub at : S
    pub to : S
    pub back : List (Step S)
    pub same : ks ≡ front ++ took b to ∷ back
    pub first : Walk moves s front at
    pub byte : Allows (moves at) (took b to)
    pub last : Walk moves to back t
    pub front_bytes : bytes_of (code_of front) ≡ w
    pub back_bytes : bytes_of (code_of back) ≡ v
    pub front_once : NoReturn seen front
    pub back_once : NoReturn (to ∷ []) back

  pub cut_walk : (ks : List (Step S)) (seen : List S) (s t : S) (w : List ℕ) (b : ℕ) (v : List ℕ) → Walk moves s ks t → NoReturn seen ks → bytes_of (code_of ks) ≡ w ++ b ∷ v → Cut seen s t ks w b v
  cut_walk [] seen s t [] b v walk once e = cc
  cut_walk [] seen s t (x ∷ w) b v walk once e = cc
  cut_walk (took x u ∷ ks) seen s t [] b v walk once e =
      let byte : x ≡ b = cc in
      let rest : bytes_of (code_of ks) ≡ v = cc in
      record { front = []; at = s; to = u; back = ks; same = ap (λ z. took z u ∷ ks) byte; first = refl; byte = rw byte at walk.0; last = walk.1; front_bytes = refl; back_bytes = rest; front_once = tt; back_once = once }
  cut_walk (took x u ∷ ks) seen s t (y ∷ w) b v walk once e =
      let byte : x ≡ y = cc in
      let r = cut_walk ks (u ∷ []) u t w b v walk.1 once (cc) in
      record { front = took x u ∷ r.front; at = r.at; to = r.to; back = r.back; same = ap (λ z. took x u ∷ z) r.same; first = (walk.0, r.first); byte = r.byte; last = r.last; front_bytes = ap₂ (λ p q. p ∷ q) byte r.front_bytes; back_bytes = r.back_bytes; front_once = r.front_once; back_once = r.back_once }
  cut_walk (chose to_left u ∷ ks) seen s t w b v walk once e =
      let r = cut_walk ks (u ∷ seen) u t w b v walk.1 once.1 e in
      record { front = chose to_left u ∷ r.front; at = r.at; to = r.to; back = r.back; same = ap (λ z. chose to_left u ∷ z) r.same; first = (walk.0, r.first); byte = r.byte; last = r.last; front_bytes = r.front_bytes; back_bytes = r.back_bytes; front_once = (once.0, r.front_once); back_once = r.back_once }
  cut_walk (chose to_right u ∷ ks) seen s t w b v walk once e =
      let r = cut_walk ks (u ∷ seen) u t w b v walk.1 once.1 e in
      record { front = chose to_right u ∷ r.front; at = r.at; to = r.to; back = r.back; same = ap (λ z. chose to_right u ∷ z) r.same; first = (walk.0, r.first); byte = r.byte; last = r.last; front_bytes = r.front_bytes; back_bytes = r.back_bytes; front_once = (once.0, r.front_once); back_once = r.back_once }
  cut_walk (went f u ∷ ks) seen s t w b v walk once e =
      let r = cut_walk ks (u ∷ seen) u t w b v walk.1 once.1 e in
      record { front = went f u ∷ r.front; at = r.at; to = r.to; back = r.back; same = ap (λ z. went f u ∷ z) r.same; first = (walk.0, r.first); byte = r.byte; last = r.last; front_bytes = r.front_bytes; back_bytes = r.back_bytes; front_once = (once.0, r.front_once); back_once = r.back_once }

  -- two walks joined by a byte
  pub once_joined : (js : List (Step S)) (seen : List S) (b : ℕ) (to : S) (ks : List (Step S)) → NoReturn seen js → NoReturn (to ∷ []) ks → NoReturn seen (js ++ took b to ∷ ks)
  once_joined [] seen b to ks first last = last
  once_joined (took x u ∷ js) seen b to ks first last = once_joined js (u ∷ []) b to ks first last
  once_joined (chose x u ∷ js) seen b to ks first last = (first.0, once_joined js (u ∷ seen) b to ks first.1 last)
  once_joined (went x u ∷ js) seen b to ks first last = (first.0, once_joined js (u ∷ seen) b to ks first.1 last)

  pub byte_waits : {m : Move S} {b : ℕ} {t : S} → Allows m (took b t) → IsWaiting m
  byte_waits (reads h) = tt

  joined_code : (js : List (Step S)) (b : ℕ) (to : S) (ks : List (Step S)) → code_of (js ++ took b to ∷ ks) ≡ code_of js ++ (Byte b ∷ code_of ks)
  joined_code js b to ks = code_of-append js (took b to ∷ ks)

module _ {S : Type 0} (moves : S → Move S) (start : S) where
  -- a survivor of a longer text came by one of the shorter
  pub record Came (w : List ℕ) (c : List Symbol) : Type 0 where
    pub by : S
    pub with : List Symbol
    pub survives : Survives moves start w by with
    pub front : Begins c with

  pub came : (w : List ℕ) (b : ℕ) (v : List ℕ) (q : S) (c : List Symbol) → Survives moves start (w ++ b ∷ v) q c → Came w c
  came w b v q c h = record { by = r.at; with = code_of r.front; survives = survives; front = (Byte b ∷ code_of r.back, sym whole) }
    where
      ks : List (Step S)
      ks = h.reached.0

      path : IsPath moves start (w ++ b ∷ v) q ks
      path = h.reached.1

      r : Cut moves (start ∷ []) start q ks w b v
      r = cut_walk moves ks (start ∷ []) start q w b v path.walk path.once path.reads

      whole : code_of r.front ++ (Byte b ∷ code_of r.back) ≡ c
      whole = sym (joined_code moves r.front b r.to r.back) ∙ ap code_of (sym r.same) ∙ h.reached.2

      front_path : IsPath moves start w r.at r.front
      front_path = record { walk = r.first; waits = byte_waits moves r.byte; once = r.front_once; reads = r.front_bytes }

      -- another path to the same place, and on as this one
      other : (js : List (Step S)) → IsPath moves start w r.at js → Reaches moves start (w ++ b ∷ v) q (code_of js ++ (Byte b ∷ code_of r.back))
      other js p = (
        js ++ took b r.to ∷ r.back,
        record {
          walk = walk-append moves js (took b r.to ∷ r.back) start r.at q p.walk (r.byte, r.last);
          waits = path.waits;
          once = once_joined moves js (start ∷ []) b r.to r.back p.once r.back_once;
          reads = ap bytes_of (joined_code moves js b r.to r.back) ∙ bytes_of-append (code_of js) (Byte b ∷ code_of r.back) ∙ ap₂ (λ x y. x ++ (b ∷ y)) p.reads r.back_bytes;
        },
        joined_code moves js b r.to r.back,
      )

      same_text : (js : List (Step S)) (ks : List (Step S)) → IsPath moves start w r.at js → IsPath moves start w r.at ks → Begins (code_of ks) (code_of js) → code_of js ≡ code_of ks
      same_text js ks p p' begins = ap code_of (one_walk moves js ks start r.at r.at begins.0 p.walk p'.walk p.waits p'.waits begins.1 (nothing_after (bytes_of (code_of js)) (bytes_of begins.0) (sym (bytes_of-append (code_of js) begins.0) ∙ ap bytes_of (sym begins.1) ∙ p'.reads ∙ sym p.reads)))

      least : (d : List Symbol) → Reaches moves start w r.at d → (code_of r.front ≡ d) ⊎ Before (code_of r.front) d
      least d (js, p, e) =
          subst (λ z. (code_of r.front ≡ z) ⊎ Before (code_of r.front) z) e
          (⊎_elim
          (λ eq. inl (append_cancel_right (code_of r.front) (code_of js) (Byte b ∷ code_of r.back) (whole ∙ eq)))
          (λ bef. before_cut (code_of r.front) (code_of js) (Byte b ∷ code_of r.back) (λ u. same_text r.front js front_path p u) (λ u. sym (same_text js r.front p front_path u)) (subst (λ z. Before z (code_of js ++ (Byte b ∷ code_of r.back))) (sym whole) bef))
          (h.least (code_of js ++ (Byte b ∷ code_of r.back)) (other js p)))

      alive : LeadsToEnd moves r.at
      alive = (took b r.to ∷ (r.back ++ h.alive.0), h.alive.1, (r.byte, walk-append moves r.back h.alive.0 r.to q h.alive.1 r.last h.alive.2), h.alive.3)

      survives : Survives moves start w r.at (code_of r.front)
      survives = record { reached = (r.front, front_path, refl); alive = alive; least = least }

  -- the same, for any longer text
  pub came_by : (w v : List ℕ) (q : S) (c : List Symbol) → Survives moves start (w ++ v) q c → Came w c
  came_by w [] q c h = record { by = q; with = c; survives = rw append-nil at h; front = ([], sym (append-nil c)) }
  came_by w (b ∷ v) q c h = came w b v q c h

  pub viable_front : (w v : List ℕ) → IsViable moves start (w ++ v) → IsViable moves start w
  viable_front w [] h = rw append-nil at h
  viable_front w (b ∷ v) (q, (c, (ks, path, e), end)) =
      let r = cut_walk moves ks (start ∷ []) start q w b v path.walk path.once path.reads in (
        r.at,
        (
          code_of r.front,
          (r.front, record { walk = r.first; waits = byte_waits moves r.byte; once = r.front_once; reads = r.front_bytes }, refl),
          (took b r.to ∷ (r.back ++ end.0), end.1, (r.byte, walk-append moves r.back end.0 r.to q end.1 r.last end.2), end.3),
        ),
      )

  pub agreed_grows : (w v : List ℕ) (c d : List Symbol) → Agreed moves start w c → Agreed moves start (w ++ v) d → Begins d c
  agreed_grows w v c d hc hd = hd.longest c (λ q e h. let r = came_by w v q e h in begins_trans c r.with e r.front (hc.common r.by r.with r.survives))

  pub agreed_greedy : (w v : List ℕ) (c d : List Symbol) → Agreed moves start w c → Greedy moves start (w ++ v) d → Begins d c
  agreed_greedy w v c d hc hd = let r = came_by w v hd.0 d hd.2 in begins_trans c r.with d r.front (hc.common r.by r.with r.survives)
