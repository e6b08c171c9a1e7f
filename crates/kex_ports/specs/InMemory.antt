-- Sources, sinks and shelves in memory: what is seen of them, and exactly what a call answers and
-- leaves.
use Rattle.std.specs.Prelude.{◌≡◌, ◌+◌, ◌<◌, ◌≤◌, ◌++◌, ◌⊎◌, ℕ, true, false, List, length, take}
use Rattle.std.specs.Prelude.{drop, min, Option, Some, None, Result, Ok, Err}
use Rattle.kex_ports.specs.Calls.{Tally, is_failing, after_success, after_failure, next_count}
use Rattle.kex_ports.specs.Endings.{Ending, written_ending, failed_ending, finished_ending}
use Rattle.kex_ports.specs.Reads.{Reads, after_asking}
use Rattle.kex_ports.specs.Named.{Texts, text_named}
use Rattle.kex_ports.specs.declared.shelf.ShelfAnswer.{ShelfAnswer}
use Rattle.kex_ports.specs.declared.shelf.ShelfAnswer.TheVariants.{Failed, TooLong, Memory}

-- A source: the bytes not yet read, how many a read gives at most, its calls, and what they asked
-- for.
pub record SourceReading : Type 0 where
  pub left : List ℕ
  pub most : ℕ
  pub calls : Tally
  pub reads : Reads

-- The source after a read of the first n bytes, into a buffer of this length.
abbrev pub after_read : ℕ → ℕ → SourceReading → SourceReading
after_read room n s = record {
  left = drop n s.left;
  most = s.most;
  calls = after_success s.calls;
  reads = after_asking room n s.reads;
}

-- A read into a buffer of this length: as many bytes as there are, and as the buffer and the source
-- allow.
abbrev pub HasRead : {E : Type 0} → SourceReading → SourceReading → ℕ → Result ℕ E → Type 0
HasRead before now room (Ok n) = (is_failing before.calls ≡ false)
    × (n ≡ min (min room before.most) (length before.left)) × (now ≡ after_read room n before)
HasRead before now room (Err e) = (is_failing before.calls ≡ true)
    × (now ≡ record {
      left = before.left;
      most = before.most;
      calls = after_failure before.calls;
      reads = after_asking room 0 before.reads;
    })

-- A sink: the bytes that it holds, how many it has room for, how many a write takes at most, its
-- calls, and how it was ended.
pub record SinkHolding : Type 0 where
  pub held : List ℕ
  pub room : ℕ
  pub most : ℕ
  pub calls : Tally
  pub ending : Ending

-- How many bytes of a piece a write is to take.
abbrev pub write_count : SinkHolding → List ℕ → ℕ
write_count s bytes = min (length bytes) s.most

-- The sink after a call that added these bytes, and after one that failed and left this ending.
abbrev pub after_write : List ℕ → SinkHolding → SinkHolding
after_write bytes s = record {
  held = s.held ++ bytes;
  room = s.room;
  most = s.most;
  calls = after_success s.calls;
  ending = written_ending s.ending;
}

abbrev pub after_fault : Ending → SinkHolding → SinkHolding
after_fault ending s = record {
  held = s.held;
  room = s.room;
  most = s.most;
  calls = after_failure s.calls;
  ending = ending;
}

-- A write takes what it is to take, and fails where its number is one that fails, or where that is
-- past the room.
abbrev pub SinkHasWritten : {E : Type 0} → SinkHolding → SinkHolding → List ℕ → Result ℕ E → Type 0
SinkHasWritten before now bytes (Ok n) = (is_failing before.calls ≡ false) × (length before.held + n
    ≤ before.room) × (n ≡ write_count before bytes) × (now ≡ after_write (take n bytes) before)
SinkHasWritten before now bytes (Err e) = ((is_failing before.calls ≡ true)
    ⊎ (before.room < length before.held + write_count before bytes))
    × (now ≡ after_fault (failed_ending before.ending) before)

abbrev pub HasFinished : {T E : Type 0} → SinkHolding → SinkHolding → Result T E → Type 0
HasFinished before now (Ok x) = (is_failing before.calls ≡ false)
    × (now ≡ record {
      held = before.held;
      room = before.room;
      most = before.most;
      calls = after_success before.calls;
      ending = finished_ending before.ending;
    })
HasFinished before now (Err e) = (is_failing before.calls ≡ true)
    × (now ≡ after_fault (finished_ending before.ending) before)

-- A shelf: its texts, its calls, and how many of them failed at a name that has a text.
pub record Shelved : Type 0 where
  pub texts : Texts
  pub calls : Tally
  pub breaks : ℕ

-- The shelf after a call that didn't fail.
abbrev pub after_look_up : Shelved → Shelved
after_look_up s = record { texts = s.texts; calls = after_success s.calls; breaks = s.breaks }

-- A failed call: the name has no text, or it has one and the number of the call is one that fails.
abbrev pub HasFailed : Option (List ℕ) → Shelved → Shelved → Type 0
HasFailed None before now = now
    ≡ record { texts = before.texts; calls = after_failure before.calls; breaks = before.breaks }
HasFailed (Some text) before now = (is_failing before.calls ≡ true)
    × (now ≡ record {
      texts = before.texts;
      calls = after_failure before.calls;
      breaks = next_count before.breaks;
    })

-- A call for a text, whose bytes are these: exactly when each answer comes, and the shelf after it.
abbrev pub HasTaken : {T : Type 0} → (T → List ℕ) → Shelved → Shelved → List ℕ → ℕ
    → Result T ShelfAnswer → Type 0
HasTaken bytes before now name limit (Ok text) = (is_failing before.calls ≡ false)
    × (text_named before.texts name ≡ Some (bytes text)) × (length (bytes text) ≤ limit)
    × (now ≡ after_look_up before)
HasTaken bytes before now name limit (Err Failed) =
    HasFailed (text_named before.texts name) before now
HasTaken bytes before now name limit (Err TooLong) = (is_failing before.calls ≡ false)
    × ((text : List ℕ) × (text_named before.texts name ≡ Some text) × (limit < length text))
    × (now ≡ after_look_up before)
HasTaken bytes before now name limit (Err Memory) = (is_failing before.calls ≡ false)
    × ((text : List ℕ) × (text_named before.texts name ≡ Some text) × (length text ≤ limit))
    × (now ≡ after_look_up before)
