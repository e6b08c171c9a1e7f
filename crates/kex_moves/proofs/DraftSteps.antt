-- A text that is put together, step by step.
use Rattle.std.proofs.Common.{◌≡◌, ℕ, ◌<◌, ◌+◌, ◌-◌, List, [], ◌∷◌, ◌++◌, length, set, refl, sym, ap, ◌∙◌, arith}
use Rattle.kex_model.specs.Moves.{open_buffer, drop_buffer}
use Rattle.kex_model.specs.Acting.{ActingState, after_effect}
use Rattle.kex_action.specs.Holdings.{with_bytes}
use Rattle.kex_moves.specs.declared.settle.EdgeDraft.{EdgeDraft}
use Rattle.kex_moves.specs.Drafts.{with_buffers, Drafts}
use Rattle.kex_moves.proofs.PlacedTexts.{adding_more}

abbrev pub draft : ℕ → ℕ → EdgeDraft
draft p n = record { place = p; depth = n }

-- at its end the text is what is made
pub drafts_all : (bytes : List ℕ) (d : EdgeDraft) (b : ℕ) (s z : ActingState) → d.depth ≡ 0 → Drafts bytes d b s z → z ≡ with_bytes (set bytes d.place b) s
drafts_all bytes d b s z e h = by h.tops (h.count ∙ e) h.is
  where
    by : (tops : List (List ℕ)) → length tops ≡ 0 → z ≡ with_buffers tops (with_bytes (set bytes d.place b) s) → z ≡ with_bytes (set bytes d.place b) s
    by [] l f = f
    by (x ∷ xs) l f = absurd (omega arith)

-- what is written to a buffer that is open here
pub drafts_hidden : (bytes more : List ℕ) (d : EdgeDraft) (b : ℕ) (s z : ActingState) → 0 < d.depth → Drafts bytes d b s z → Drafts bytes d b s (with_bytes more z)
drafts_hidden bytes more d b s z some h = by h.tops h.count h.is
  where
    by : (tops : List (List ℕ)) → length tops ≡ d.depth → z ≡ with_buffers tops (with_bytes (set bytes d.place b) s) → Drafts bytes d b s (with_bytes more z)
    by [] l f = absurd (omega arith)
    by (x ∷ xs) l f = record { tops = (x ++ more) ∷ xs; count = l; is = ap (with_bytes more) f }

-- what is written where none is open
pub drafts_written : (bytes more all : List ℕ) (d : EdgeDraft) (p b : ℕ) (s z : ActingState) → d.depth ≡ 0 → set bytes d.place b ++ more ≡ set all p b → Drafts bytes d b s z → Drafts all (draft p 0) b s (with_bytes more z)
drafts_written bytes more all d p b s z none e h = record {
  tops = [];
  count = refl;
  is = ap (with_bytes more) (drafts_all bytes d b s z none h) ∙ adding_more (set bytes d.place b) more s ∙ ap (λ l. with_bytes l s) e;
}

pub drafts_opened : (bytes : List ℕ) (d : EdgeDraft) (n b : ℕ) (s z : ActingState) → n ≡ d.depth + 1 → Drafts bytes d b s z → Drafts bytes (draft d.place n) b s (after_effect open_buffer z)
drafts_opened bytes d n b s z e h = record { tops = [] ∷ h.tops; count = omega (arith, e, h.count); is = ap (after_effect open_buffer) h.is }

pub drafts_dropped : (bytes : List ℕ) (d : EdgeDraft) (n b : ℕ) (s z : ActingState) → 0 < d.depth → n ≡ d.depth - 1 → Drafts bytes d b s z → Drafts bytes (draft d.place n) b s (after_effect drop_buffer z)
drafts_dropped bytes d n b s z some e h = by h.tops h.count h.is
  where
    by : (tops : List (List ℕ)) → length tops ≡ d.depth → z ≡ with_buffers tops (with_bytes (set bytes d.place b) s) → Drafts bytes (draft d.place n) b s (after_effect drop_buffer z)
    by [] l f = absurd (omega arith)
    by (x ∷ xs) l f = record { tops = xs; count = omega (arith, e, l); is = ap (after_effect drop_buffer) f }

-- the same at the same place
pub drafts_more : (bytes more all : List ℕ) (d : EdgeDraft) (b : ℕ) (s z : ActingState) → d.depth ≡ 0 → set bytes d.place b ++ more ≡ set all d.place b → Drafts bytes d b s z → Drafts all d b s (with_bytes more z)
drafts_more bytes more all d b s z none e h =
    let h' = drafts_written bytes more all d d.place b s z none e h in
    record { tops = h'.tops; count = h'.count ∙ sym none; is = h'.is }
