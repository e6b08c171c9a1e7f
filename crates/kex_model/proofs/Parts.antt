-- A part of a tree depends on the code alone.
use Rattle.std.proofs.Common.{◌≡◌, zero, suc, List, [], ◌∷◌, ◌++◌, Option, Some, None, refl, sym, ap, ◌∙◌, append_assoc}
use Rattle.std.proofs.lemmas.List.{append_cancel_left}
use Rattle.kex_model.specs.Moves.{symbol_of, turn_side, end_side}
use Rattle.kex_model.proofs.Derivations.{sides_differ}
use Rattle.kex_model.specs.Programs.{Grammar}
use Rattle.kex_model.specs.declared.program.Kind.{Kind}
use Rattle.kex_model.specs.declared.program.Kind.TheVariants.{Rep}
use Rattle.kex_code.specs.declared.symbol.Symbol.{Symbol}
use Rattle.kex_code.specs.declared.symbol.Symbol.TheVariants.{L, R, Byte}
use Rattle.kex_code.specs.Registers.{Registers}
use Rattle.kex_model.specs.Trees.{kind_at, less, Tree, IsTree, one, lit, one_byte, call, seq, alt_left, alt_right, needed, again, end, mute, at_register, write_register, set_register, add_register, code, PartMeaning, part_behind, go_on, then_part, muted_part, kept_part, part_meaning}

-- the rest of two parts, one after the other
pub then_left : (p : PartMeaning) (next : List Symbol → Registers → PartMeaning) (d : List Symbol) → (then_part p next).rest ≡ Some d → (c : List Symbol) × (p.rest ≡ Some c) × ((next c p.registers).rest ≡ Some d)
then_left p next d h = cases p.rest refl h
  where
    cases : (o : Option (List Symbol)) → p.rest ≡ o → (go_on p.bytes p.registers o next).rest ≡ Some d → (c : List Symbol) × (p.rest ≡ Some c) × ((next c p.registers).rest ≡ Some d)
    cases None e h = cc
    cases (Some c) e h = (c, e, h)

pub behind_left : (m : Symbol) (r c u d : List Symbol) (regs : Registers) (next : List Symbol → PartMeaning) → m ∷ r ≡ c ++ u → (part_behind (m ∷ []) c regs next).rest ≡ Some d → (c' : List Symbol) × (c ≡ m ∷ c') × (r ≡ c' ++ u) × ((next c').rest ≡ Some d)
behind_left m r [] u d regs next e h = cc
behind_left m r (y ∷ c) u d regs next e h =
    let same : y ≡ m = cc in
    let tail : r ≡ c ++ u = cc in
    (c, ap (λ z. z ∷ c) same, tail, h)

-- the code of two trees that follow each other, with a tail
cut : (a b x c u : List Symbol) → (a ++ b) ++ x ≡ c ++ u → (d : List Symbol) → c ≡ a ++ d → b ++ x ≡ d ++ u
cut a b x c u e d f = append_cancel_left a _ _ (sym (append_assoc a b x) ∙ e ∙ ap (λ z. z ++ u) f ∙ append_assoc a d u)

-- what is left after two trees that follow each other
two_left : (ca cb : List Symbol) (pa : PartMeaning) (pb : List Symbol → Registers → PartMeaning) (c x u d : List Symbol) → ((d' : List Symbol) → ca ++ (cb ++ x) ≡ c ++ u → pa.rest ≡ Some d' → c ≡ ca ++ d') → ((c' d' : List Symbol) → cb ++ x ≡ c' ++ u → (pb c' pa.registers).rest ≡ Some d' → c' ≡ cb ++ d') → (ca ++ cb) ++ x ≡ c ++ u → (then_part pa pb).rest ≡ Some d → c ≡ (ca ++ cb) ++ d
two_left ca cb pa pb c x u d fa fb e h =
    let q = then_left pa pb d h in
    let first : c ≡ ca ++ q.0 = fa q.0 (sym (append_assoc ca cb x) ∙ e) q.1 in
    let second : q.0 ≡ cb ++ d = fb q.0 d (cut ca cb x c u e q.0 first) q.2 in
    first ∙ ap (λ z. ca ++ z) second ∙ sym (append_assoc ca cb d)

module _ (P : Grammar) where
  -- what is left of a code is what comes after the tree's
  pub left_over : {k : Kind} {t : Tree} (c x u d : List Symbol) (regs : Registers) → IsTree P k t → code P k t ++ x ≡ c ++ u → (part_meaning P k t c regs).rest ≡ Some d → c ≡ code P k t ++ d
  left_over c x u d regs one e h = cc
  left_over c x u d regs lit e h = cc
  left_over c x u d regs (one_byte {b = b} i) e h =
      let r = behind_left (Byte b) x c u d regs _ e h in
      let same : r.0 ≡ d = cc in
      rw (r.1, same)
  left_over c x u d regs (call a) e h = left_over c x u d regs a e h
  left_over c x u d regs (seq {l = l} {r = r} {a = a} {b = b} ta tb) e h =
      two_left (code P (kind_at P l) a) (code P (kind_at P r) b) (part_meaning P (kind_at P l) a c regs) (part_meaning P (kind_at P r) b) c x u d (λ d'. left_over c (code P (kind_at P r) b ++ x) u d' regs ta) (λ c' d'. left_over c' x u d' _ tb) e h
  left_over c x u d regs (alt_left {l = l} {a = a} ta) e h =
      let r = behind_left L (code P (kind_at P l) a ++ x) c u d regs _ e h in
      r.1 ∙ ap (λ z. L ∷ z) (left_over r.0 x u d regs ta r.2 r.3)
  left_over c x u d regs (alt_right {r = n} {a = a} ta) e h =
      let r = behind_left R (code P (kind_at P n) a ++ x) c u d regs _ e h in
      r.1 ∙ ap (λ z. R ∷ z) (left_over r.0 x u d regs ta r.2 r.3)
  left_over c x u d regs (needed {body = n} {min = min} {max = max} {lazy = lazy} {a = a} {rest = b} ta tb) e h =
      two_left (code P (kind_at P n) a) (code P (Rep n min (less max) lazy) b) (part_meaning P (kind_at P n) a c regs) (part_meaning P (Rep n min (less max) lazy) b) c x u d (λ d'. left_over c (code P (Rep n min (less max) lazy) b ++ x) u d' regs ta) (λ c' d'. left_over c' x u d' _ tb) e h
  left_over c x u d regs (again {body = n} {max = max} {lazy = lazy} {a = a} {rest = b} i ta tb) e h =
      let cb = code P (Rep n zero (less max) lazy) b in
      let r = behind_left (symbol_of (turn_side lazy)) ((code P (kind_at P n) a ++ cb) ++ x) c u d regs _ e h in
      r.1 ∙ ap (λ z. symbol_of (turn_side lazy) ∷ z) (two_left (code P (kind_at P n) a) cb (part_meaning P (kind_at P n) a r.0 regs) (part_meaning P (Rep n zero (less max) lazy) b) r.0 x u d (λ d'. left_over r.0 (cb ++ x) u d' regs ta) (λ c' d'. left_over c' x u d' _ tb) r.2 r.3)
  left_over c x u d regs (end {max = None} {lazy = lazy}) e h =
      let r = behind_left (symbol_of (end_side lazy)) x c u d regs _ e h in
      let same : r.0 ≡ d = cc in
      rw (r.1, same)
  left_over c x u d regs (end {max = Some zero} {lazy = lazy}) e h = cc
  left_over c x u d regs (end {max = Some (suc n)} {lazy = lazy}) e h =
      let r = behind_left (symbol_of (end_side lazy)) x c u d regs _ e h in
      let same : r.0 ≡ d = cc in
      rw (r.1, same)
  left_over c x u d regs (mute a) e h = left_over c x u d regs a e h
  left_over c x u d regs (at_register a) e h = left_over c x u d regs a e h
  left_over c x u d regs write_register e h = cc
  left_over c x u d regs set_register e h = cc
  left_over c x u d regs add_register e h = cc

-- two parts that go on are the same if they were and go on alike
same_then : (p q : PartMeaning) (f g : List Symbol → Registers → PartMeaning) → p ≡ q → ((c : List Symbol) → p.rest ≡ Some c → q.rest ≡ Some c → f c p.registers ≡ g c p.registers) → then_part p f ≡ then_part q g
same_then p q f g e h = cases p.rest refl ∙ ap (λ z. then_part z g) e
  where
    cases : (o : Option (List Symbol)) → p.rest ≡ o → then_part p f ≡ then_part p g
    cases None r = rw r
    cases (Some c) r =
        let next : f c p.registers ≡ g c p.registers = h c r (ap (λ z. z.rest) (sym e) ∙ r) in
        rw (r, next)

-- two parts after marks: both stop, or the marks are one
same_behind : (m n : Symbol) (x y c u v : List Symbol) (regs : Registers) (f g : List Symbol → PartMeaning) → m ∷ x ≡ c ++ u → n ∷ y ≡ c ++ v → ((c' : List Symbol) → m ≡ n → x ≡ c' ++ u → y ≡ c' ++ v → f c' ≡ g c') → part_behind (m ∷ []) c regs f ≡ part_behind (n ∷ []) c regs g
same_behind m n x y [] u v regs f g e e' h = refl
same_behind m n x y (z ∷ c) u v regs f g e e' h = h c (cc) (cc) (cc)

module _ (P : Grammar) where
  -- two trees after two trees
  two_same : (ca cb da db : List Symbol) (pa qa : PartMeaning) (pb qb : List Symbol → Registers → PartMeaning) (c x y u v : List Symbol) → pa ≡ qa → ((d : List Symbol) → ca ++ (cb ++ x) ≡ c ++ u → pa.rest ≡ Some d → c ≡ ca ++ d) → ((d : List Symbol) → da ++ (db ++ y) ≡ c ++ v → qa.rest ≡ Some d → c ≡ da ++ d) → ((c' : List Symbol) → cb ++ x ≡ c' ++ u → db ++ y ≡ c' ++ v → pb c' pa.registers ≡ qb c' pa.registers) → (ca ++ cb) ++ x ≡ c ++ u → (da ++ db) ++ y ≡ c ++ v → then_part pa pb ≡ then_part qa qb
  two_same ca cb da db pa qa pb qb c x y u v same fa ga next e e' =
      same_then pa qa pb qb same (λ c' r r'. next c' (cut ca cb x c u e c' (fa c' (sym (append_assoc ca cb x) ∙ e) r)) (cut da db y c v e' c' (ga c' (sym (append_assoc da db y) ∙ e') r')))

  pub same_part : {k : Kind} {s t : Tree} (c x y u v : List Symbol) (regs : Registers) → IsTree P k s → IsTree P k t → code P k s ++ x ≡ c ++ u → code P k t ++ y ≡ c ++ v → part_meaning P k s c regs ≡ part_meaning P k t c regs
  same_part c x y u v regs one one e e' = refl
  same_part c x y u v regs lit lit e e' = refl
  same_part c x y u v regs (one_byte {b = a} i) (one_byte {b = b} j) e e' =
      same_behind (Byte a) (Byte b) x y c u v regs _ _ e e' (λ d same f g. let bytes : a ≡ b = cc in ap (λ z. record { bytes = z ∷ []; registers = regs; rest = Some d }) bytes)
  same_part c x y u v regs (call a) (call b) e e' = same_part c x y u v regs a b e e'
  same_part c x y u v regs (seq {l = l} {r = r} {a = a} {b = b} ta tb) (seq {a = a'} {b = b'} ta' tb') e e' =
      let ca = code P (kind_at P l) a in let cb = code P (kind_at P r) b in
      let da = code P (kind_at P l) a' in let db = code P (kind_at P r) b' in
      two_same ca cb da db (part_meaning P (kind_at P l) a c regs) (part_meaning P (kind_at P l) a' c regs) (part_meaning P (kind_at P r) b) (part_meaning P (kind_at P r) b') c x y u v (same_part c (cb ++ x) (db ++ y) u v regs ta ta' (sym (append_assoc ca cb x) ∙ e) (sym (append_assoc da db y) ∙ e')) (λ d'. left_over P c (cb ++ x) u d' regs ta) (λ d'. left_over P c (db ++ y) v d' regs ta') (λ c' f g. same_part c' x y u v _ tb tb' f g) e e'
  same_part c x y u v regs (alt_left {l = l} {a = a} ta) (alt_left {a = b} tb) e e' =
      same_behind L L (code P (kind_at P l) a ++ x) (code P (kind_at P l) b ++ y) c u v regs _ _ e e' (λ d same f g. same_part d x y u v regs ta tb f g)
  same_part c x y u v regs (alt_left {l = l} {r = r} {a = a} ta) (alt_right {a = b} tb) e e' =
      same_behind L R (code P (kind_at P l) a ++ x) (code P (kind_at P r) b ++ y) c u v regs _ _ e e' (λ d same f g. cc)
  same_part c x y u v regs (alt_right {l = l} {r = r} {a = a} ta) (alt_left {a = b} tb) e e' =
      same_behind R L (code P (kind_at P r) a ++ x) (code P (kind_at P l) b ++ y) c u v regs _ _ e e' (λ d same f g. cc)
  same_part c x y u v regs (alt_right {r = r} {a = a} ta) (alt_right {a = b} tb) e e' =
      same_behind R R (code P (kind_at P r) a ++ x) (code P (kind_at P r) b ++ y) c u v regs _ _ e e' (λ d same f g. same_part d x y u v regs ta tb f g)
  same_part c x y u v regs (needed {body = n} {min = min} {max = max} {lazy = lazy} {a = a} {rest = b} ta tb) (needed {a = a'} {rest = b'} ta' tb') e e' =
      let ca = code P (kind_at P n) a in let cb = code P (Rep n min (less max) lazy) b in
      let da = code P (kind_at P n) a' in let db = code P (Rep n min (less max) lazy) b' in
      two_same ca cb da db (part_meaning P (kind_at P n) a c regs) (part_meaning P (kind_at P n) a' c regs) (part_meaning P (Rep n min (less max) lazy) b) (part_meaning P (Rep n min (less max) lazy) b') c x y u v (same_part c (cb ++ x) (db ++ y) u v regs ta ta' (sym (append_assoc ca cb x) ∙ e) (sym (append_assoc da db y) ∙ e')) (λ d'. left_over P c (cb ++ x) u d' regs ta) (λ d'. left_over P c (db ++ y) v d' regs ta') (λ c' f g. same_part c' x y u v _ tb tb' f g) e e'
  same_part c x y u v regs (again {body = n} {max = max} {lazy = lazy} {a = a} {rest = b} i ta tb) (again {a = a'} {rest = b'} i' ta' tb') e e' =
      let ca = code P (kind_at P n) a in let cb = code P (Rep n zero (less max) lazy) b in
      let da = code P (kind_at P n) a' in let db = code P (Rep n zero (less max) lazy) b' in
      same_behind (symbol_of (turn_side lazy)) (symbol_of (turn_side lazy)) ((ca ++ cb) ++ x) ((da ++ db) ++ y) c u v regs _ _ e e' (λ d same f g. two_same ca cb da db (part_meaning P (kind_at P n) a d regs) (part_meaning P (kind_at P n) a' d regs) (part_meaning P (Rep n zero (less max) lazy) b) (part_meaning P (Rep n zero (less max) lazy) b') d x y u v (same_part d (cb ++ x) (db ++ y) u v regs ta ta' (sym (append_assoc ca cb x) ∙ f) (sym (append_assoc da db y) ∙ g)) (λ d'. left_over P d (cb ++ x) u d' regs ta) (λ d'. left_over P d (db ++ y) v d' regs ta') (λ c' f g. same_part c' x y u v _ tb tb' f g) f g)
  same_part c x y u v regs (again {body = n} {max = None} {lazy = lazy} {a = a} {rest = b} i ta tb) end e e' =
      same_behind (symbol_of (turn_side lazy)) (symbol_of (end_side lazy)) ((code P (kind_at P n) a ++ code P (Rep n zero None lazy) b) ++ x) y c u v regs _ _ e e' (λ d same f g. absurd (sides_differ lazy same))
  same_part c x y u v regs (again {max = Some zero} {lazy = lazy} i ta tb) end e e' = elim i [ ]
  same_part c x y u v regs (again {body = n} {max = Some (suc m)} {lazy = lazy} {a = a} {rest = b} i ta tb) end e e' =
      same_behind (symbol_of (turn_side lazy)) (symbol_of (end_side lazy)) ((code P (kind_at P n) a ++ code P (Rep n zero (less (Some (suc m))) lazy) b) ++ x) y c u v regs _ _ e e' (λ d same f g. absurd (sides_differ lazy same))
  same_part c x y u v regs (end {max = None} {lazy = lazy}) (again {body = n} {a = a} {rest = b} i ta tb) e e' =
      same_behind (symbol_of (end_side lazy)) (symbol_of (turn_side lazy)) x ((code P (kind_at P n) a ++ code P (Rep n zero None lazy) b) ++ y) c u v regs _ _ e e' (λ d same f g. absurd (sides_differ lazy (sym same)))
  same_part c x y u v regs (end {max = Some zero} {lazy = lazy}) (again i ta tb) e e' = elim i [ ]
  same_part c x y u v regs (end {max = Some (suc m)} {lazy = lazy}) (again {body = n} {a = a} {rest = b} i ta tb) e e' =
      same_behind (symbol_of (end_side lazy)) (symbol_of (turn_side lazy)) x ((code P (kind_at P n) a ++ code P (Rep n zero (less (Some (suc m))) lazy) b) ++ y) c u v regs _ _ e e' (λ d same f g. absurd (sides_differ lazy (sym same)))
  same_part c x y u v regs end end e e' = refl
  same_part c x y u v regs (mute a) (mute b) e e' = ap muted_part (same_part c x y u v regs a b e e')
  same_part c x y u v regs (at_register {r = r} a) (at_register b) e e' = ap (kept_part r) (same_part c x y u v regs a b e e')
  same_part c x y u v regs write_register write_register e e' = refl
  same_part c x y u v regs set_register set_register e e' = refl
  same_part c x y u v regs add_register add_register e e' = refl
