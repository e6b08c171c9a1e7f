-- What becomes of a file by its parts.
use Rattle.std.proofs.Common.{◌≡◌, ℕ, ◌≤◌, List, ◌++◌, inl, inr, Option, sym, ap, subst, ◌∙◌, append_assoc}
use Rattle.std.specs.Prelude.{length}
use Rattle.kex_machine.specs.Nodes.{Graph}
use Rattle.kex_sst.specs.declared.table.Transition.{Transition}
use Rattle.kex_compile.specs.Compiled.{HasMachines, IsRefused}
use Rattle.kex_compile.specs.declared.limits.Limits.{Limits}
use Rattle.kex_compile.specs.declared.refusal.CompileRefusal.{CompileRefusal}
use Rattle.kex_compile.specs.declared.refusal.CompileRefusal.TheVariants as compile
use Rattle.kex_tabfile.specs.Lines.{head_text, end_line, line_behind}
use Rattle.kex_tabfile.specs.Readers.{ReadSoFar, ReadsBytes, most_bytes}
use Rattle.kex_tabfile.specs.TableFiles.{AreStageTexts, IsTableFile, at_end, past_end, IsBadLine, bad_front, bad_line, IsBadHead, IsTableRefused, of_text}
use Rattle.kex_tabfile.specs.Checking.{BreaksStages, BreaksEnd}
use Rattle.kex_tabfile.specs.declared.refusal.TableRefusal.{TableRefusal}
use Rattle.kex_tabfile.specs.declared.refusal.TableRefusal.TheVariants.{TableTooLong, BadTable, Text, Memory}

pub refused_head : (file : List ℕ) (e : TableRefusal) → length file ≤ most_bytes → IsBadHead file e → IsTableRefused file e
refused_head file TableTooLong le h = absurd h
refused_head file (BadTable line) le h = (le, bad_front h)
refused_head file (Text why) le h = absurd h
refused_head file Memory le h = tt

module _ (file text : List ℕ) (le : length file ≤ most_bytes) (a : ReadSoFar) (read : a.before ≡ head_text text) (whole : file ≡ head_text text ++ a.rest) where
  pub refused_text : (why : CompileRefusal) → ((limits : Limits) → IsRefused limits text why) → IsTableRefused file (of_text why)
  refused_text compile.TextTooLong h = (le, text, (a.rest, whole), h)
  refused_text (compile.BadToken n) h = (le, text, (a.rest, whole), h)
  refused_text (compile.Unexpected n) h = (le, text, (a.rest, whole), h)
  refused_text (compile.BadRegex n) h = (le, text, (a.rest, whole), h)
  refused_text (compile.BadCount n) h = (le, text, (a.rest, whole), h)
  refused_text (compile.BadSet n) h = (le, text, (a.rest, whole), h)
  refused_text (compile.OverLimit n) h = (le, text, (a.rest, whole), h)
  refused_text (compile.TwiceDefined n) h = (le, text, (a.rest, whole), h)
  refused_text (compile.Unknown n) h = (le, text, (a.rest, whole), h)
  refused_text compile.NoStart h = (le, text, (a.rest, whole), h)
  refused_text (compile.NotTail n) h = (le, text, (a.rest, whole), h)
  refused_text (compile.TooManyPlaces n) h = (le, text, (a.rest, whole), h)
  refused_text (compile.NoText n) h = (le, text, (a.rest, whole), h)
  refused_text compile.OneStage h = (le, text, (a.rest, whole), h)
  refused_text (compile.TooManyStates n) h = (le, text, (a.rest, whole), h)
  refused_text (compile.TooManyPairs n) h = (le, text, (a.rest, whole), h)
  refused_text compile.Memory h = tt

  module _ (ms : List Graph) (machines : HasMachines text ms) where
    pub refused_stages : (e : TableRefusal) → BreaksStages ms a e → IsTableRefused file e
    refused_stages TableTooLong h = absurd h
    refused_stages (Text why) h = absurd h
    refused_stages Memory h = tt
    refused_stages (BadTable line) (before, rest, e, broken, is) = (le, subst (λ z. IsBadLine file z) (sym (is ∙ ap (λ z. line_behind (z ++ before)) read)) (bad_line machines (whole ∙ ap (λ z. head_text text ++ z) e) broken))

    module _ (tables : List (List (List (Option Transition)))) (bytes : List ℕ) (texts : AreStageTexts 1 ms tables bytes) (b : ReadSoFar) (on : ReadsBytes a bytes b) where
      rest_is : file ≡ head_text text ++ (bytes ++ b.rest)
      rest_is = whole ∙ ap (λ z. head_text text ++ z) on.came

      before_is : b.before ≡ head_text text ++ bytes
      before_is = on.before ∙ ap (λ z. z ++ bytes) read

      pub refused_end : (e : TableRefusal) → BreaksEnd b e → IsTableRefused file e
      refused_end TableTooLong h = absurd h
      refused_end (Text why) h = absurd h
      refused_end Memory h = absurd h
      refused_end (BadTable line) (inl (other, is)) = (le, subst (λ z. IsBadLine file z) (sym (is ∙ ap line_behind before_is)) (bad_line machines rest_is (at_end tables texts other)))
      refused_end (BadTable line) (inr (more, e, some, is)) = (
        le,
        subst (λ z. IsBadLine file z) (sym (is ∙ ap (λ z. line_behind (z ++ end_line)) before_is ∙ ap line_behind (append_assoc (head_text text) bytes end_line))) (bad_line machines (rest_is ∙ ap (λ z. head_text text ++ z) (ap (λ z. bytes ++ z) e ∙ sym (append_assoc bytes end_line more))) (past_end tables bytes texts some)),
      )

      -- the file that is read to its end
      pub spells_file : b.rest ≡ end_line → IsTableFile file text ms tables
      spells_file e = record { lines = bytes; stages = texts; whole = rest_is ∙ ap (λ z. head_text text ++ (bytes ++ z)) e }
