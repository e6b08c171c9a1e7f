-- A good run is done, or wants memory; and what is done is what the program means.
use Rattle.std.proofs.Common.{◌≡◌, ℕ, List, inl, inr, refl, subst}
use Rattle.std.specs.Prelude.{◌⊎◌, Option, Some, None}
use Rattle.kex_ports.specs.Named.{Texts}
use Rattle.kex_ports.specs.Reads.{Reads}
use Rattle.kex_ports.specs.Shelf.{present}
use Rattle.kex_words.specs.Gains.{StreamChange}
use Rattle.kex_words.specs.Words.{Asked}
use Rattle.kex_top.specs.Commands.{calls_of, runs_within, taken_for, told_text}
use Rattle.kex_top.specs.Kex.{BreaksNoRule, CallAnswers, CommandAnswers, Headline, IsComplete}
use Rattle.kex_top.specs.Refusals.{IsRefusedFor}
use Rattle.kex_top.specs.Shelves.{ShelfChange, ShelfServes}
use Rattle.kex_top.specs.declared.status.Status.{Status}
use Rattle.kex_top.specs.declared.status.Status.TheVariants.{Done, Rejected, Usage, Refused, ReadFault, WriteFault, ShelfFault, Memory, TooLong, InputTooLong}
use Rattle.kex_top.proofs.CommandCases.{laws_of}

module _ (texts : Option Texts) (shelf : ShelfChange) (reads : Option Reads) (source sink : StreamChange) where
  sound : (asked : Asked) (s : Status) → BreaksNoRule asked texts shelf source sink → ShelfServes (calls_of (Some asked)).takes texts shelf s → CommandAnswers asked texts reads source sink s → (s ≡ Done) ⊎ (s ≡ Memory)
  sound asked Done g h a = inl refl
  sound asked Memory g h a = inr refl
  sound asked Usage g h a = absurd a
  sound asked ShelfFault g h a = absurd ((laws_of texts reads source sink asked).unfailed shelf g a.0 h)
  sound asked (Refused k) g h a = absurd (g.unrefused k (subst (λ t. IsRefusedFor (taken_for asked) t k) g.is_told a.1))
  sound asked (Rejected r) g h a = absurd ((laws_of texts reads source sink asked).unrejected shelf r g a)
  sound asked (TooLong r) g h a = absurd ((laws_of texts reads source sink asked).unlimited shelf r g a)
  sound asked InputTooLong g h a = absurd ((laws_of texts reads source sink asked).unbounded shelf g a)
  sound asked ReadFault g h a = absurd ((laws_of texts reads source sink asked).unstopped shelf g a)
  sound asked WriteFault g h a = absurd ((laws_of texts reads source sink asked).unspoilt shelf g a)

  pub completes : (a : Option Asked) (s : Status) → ShelfServes (calls_of a).takes texts shelf s → CallAnswers a texts reads source sink s → IsComplete a texts shelf source sink → (s ≡ Done) ⊎ (s ≡ Memory)
  completes None s h x none = absurd none
  completes (Some asked) s h x g = sound asked s g h x

pub done-as-told : (asked : Asked) (limit : ℕ) (a : Option Asked) (texts : Option Texts) (reads : Option Reads) (source sink : StreamChange) (s : Status) (text input before : List ℕ) → a ≡ Some asked → runs_within asked ≡ Some limit → told_text texts asked ≡ present text → source.old ≡ Some input → sink.old ≡ Some before → s ≡ Done → CallAnswers a texts reads source sink s → Headline (taken_for asked) text limit input before source.new sink.new
done-as-told asked limit a texts reads source sink s text input before command runs is rest held done answers =
    (laws_of texts reads source sink asked).meant limit text input before runs is rest held (subst (λ x. CallAnswers (Some asked) texts reads source sink x) done (subst (λ x. CallAnswers x texts reads source sink s) command answers))
