-- A piece that is read in several steps.
use Rattle.std.proofs.Common.{◌≡◌, ℕ, true, false, List, [], ◌++◌, Option, Some, None, refl, sym, ap, subst, ◌∙◌, append_assoc, append-nil}
use Rattle.std.specs.Prelude.{is_some}
use Rattle.kex_pipe.specs.Working.{ReadMore}
use Rattle.kex_desks.specs.Drafts.{GoesOver, ReadsPiece, ComesTo}

pub goes_nowhere : (F : List ℕ → List ℕ → Type 0) (out : List ℕ) → GoesOver F F [] out out
goes_nowhere F out = record {
  goes = λ w text f. (
    [],
    sym (append-nil out),
    subst (λ z. F z (text ++ [])) (sym (append-nil w)) (subst (λ z. F w z) (sym (append-nil text)) f),
  );
}

pub goes_more : (F G H : List ℕ → List ℕ → Type 0) (p q x y z : List ℕ) → GoesOver F G p x y → GoesOver G H q y z → GoesOver F H (p ++ q) x z
goes_more F G H p q x y z first then = record {
  goes = λ w text f.
      let (more, written, g) = first.goes w text f in
      let (more', written', h) = then.goes (w ++ p) (text ++ more) g in (
        more ++ more',
        written' ∙ ap (λ u. u ++ more') written ∙ append_assoc x more more',
        subst (λ u. H u (text ++ (more ++ more'))) (append_assoc w p q) (subst (λ u. H ((w ++ p) ++ q) u) (append_assoc text more more') h),
      );
}

module _ (Says : List ℕ → Option ℕ → List ℕ → Type 0) where
  pub reads_more : (F G H : List ℕ → List ℕ → Type 0) (p q : List ℕ) (at : Option ℕ) (x y z : List ℕ) → GoesOver F G p x y → ReadsPiece Says G H q at y z → ReadsPiece Says F H (p ++ q) at x z
  reads_more F G H p q at x y z first then = record {
    reads = λ w text f.
        let (more, written, g) = first.goes w text f in
        let k = then.reads (w ++ p) (text ++ more) g in
        record {
          more = more ++ k.more;
          written = k.written ∙ ap (λ u. u ++ k.more) written ∙ append_assoc x more k.more;
          says = subst (λ u. Says u at (text ++ (more ++ k.more))) (append_assoc w p q) (subst (λ u. Says ((w ++ p) ++ q) at u) (append_assoc text more k.more) k.says);
          follows = λ e. subst (λ u. H u (text ++ (more ++ k.more))) (append_assoc w p q) (subst (λ u. H ((w ++ p) ++ q) u) (append_assoc text more k.more) (k.follows e));
        };
  }

  -- a piece that was read whole
  pub comes : (F G : List ℕ → List ℕ → Type 0) (p : List ℕ) (at : Option ℕ) (x y : List ℕ) → ((w text : List ℕ) → F w text → ReadMore Says G w text p at x y) → ComesTo Says F G p at x y
  comes F G p None x y h = record { goes = λ w text f. let k = h w text f in (k.more, k.written, k.follows refl) }
  comes F G p (Some at) x y h = record { reads = h }

  pub comes_more : (F G H : List ℕ → List ℕ → Type 0) (p q : List ℕ) (at : Option ℕ) (x y z : List ℕ) → GoesOver F G p x y → ComesTo Says G H q at y z → ComesTo Says F H (p ++ q) at x z
  comes_more F G H p q None x y z first then = goes_more F G H p q x y z first then
  comes_more F G H p q (Some at) x y z first then = reads_more F G H p q (Some at) x y z first then

  -- what comes after a stop doesn't matter
  pub reads_past : (F G : List ℕ → List ℕ → Type 0) (p q : List ℕ) (at : ℕ) (x y : List ℕ) → ((w v : List ℕ) (k : ℕ) (text : List ℕ) → Says w (Some k) text → Says (w ++ v) (Some k) text) → ReadsPiece Says F G p (Some at) x y → ReadsPiece Says F G (p ++ q) (Some at) x y
  reads_past F G p q at x y stopped first = record {
    reads = λ w text f.
        let k = first.reads w text f in
        record {
          more = k.more;
          written = k.written;
          says = subst (λ u. Says u (Some at) (text ++ k.more)) (append_assoc w p q) (stopped (w ++ p) q at (text ++ k.more) k.says);
          follows = λ e. let no : Some at ≡ None = e in cc;
        };
  }

module _ (Says : List ℕ → Option ℕ → List ℕ → Type 0) where
  -- no byte of a piece has stopped it
  pub goes_on : (F G : List ℕ → List ℕ → Type 0) (p : List ℕ) (at : Option ℕ) (x y : List ℕ) → at ≡ None → ((w text : List ℕ) → F w text → ReadMore Says G w text p at x y) → GoesOver F G p x y
  goes_on F G p at x y e h = record { goes = λ w text f. let k = h w text f in (k.more, k.written, k.follows e) }

-- a draft is taken over by what follows all that its worker followed where it was begun
pub takes_over : (F B G : List ℕ → List ℕ → Type 0) (bytes text out : List ℕ) → ((w t : List ℕ) → F w t → B w t) → GoesOver B G bytes [] text → GoesOver F G bytes out (out ++ text)
takes_over F B G bytes text out alike went = record {
  goes = λ w t f.
      let (more, written, g) = went.goes w t (alike w t f) in
      (more, ap (λ z. out ++ z) written, g);
}

pub no_stop : (stop : Option ℕ) → is_some stop ≡ false → stop ≡ None
no_stop None e = refl
no_stop (Some at) e = let bad : true ≡ false = e in cc

-- what comes after a stop doesn't matter
pub stops_in_front : (Says : List ℕ → Option ℕ → List ℕ → Type 0) (F G : List ℕ → List ℕ → Type 0) (p q : List ℕ) (stop : Option ℕ) (x y : List ℕ) → ((w v : List ℕ) (k : ℕ) (text : List ℕ) → Says w (Some k) text → Says (w ++ v) (Some k) text) → is_some stop ≡ true → ComesTo Says F G p stop x y → ReadsPiece Says F G (p ++ q) stop x y
stops_in_front Says F G p q None x y stopped e h = let bad : false ≡ true = e in cc
stops_in_front Says F G p q (Some at) x y stopped e h = reads_past Says F G p q at x y stopped h
