-- What a run over a source and a sink leaves.
use Rattle.std.specs.Prelude.{◌≡◌, ◌++◌, ◌<◌, ◌≤◌, ◌⊎◌, ℕ, Bool, true, false, List, [], Option}
use Rattle.std.specs.Prelude.{Some, None, length}
use Rattle.std.specs.Io.KnownBytes.{Appends, Consumes, IsAtEnd}
use Rattle.kex_ports.specs.Bytes.{IsPrefix}
use Rattle.kex_words.specs.Gains.{StreamChange, CallHasFailed}
use Rattle.kex_pipeline.specs.Sayings.{Said}
use Rattle.kex_pipe.specs.declared.report.Rejected.{Rejected as Report}
use Rattle.kex_pipe.specs.declared.turn.Why.{Why}
use Rattle.kex_pipe.specs.declared.turn.Why.TheVariants.{Byte, End, Limit}
use Rattle.kex_top.specs.declared.status.Status.{Status}
use Rattle.kex_top.specs.declared.status.Status.TheVariants.{Done, Rejected, ReadFault, WriteFault}
use Rattle.kex_top.specs.declared.status.Status.TheVariants.{Memory, TooLong, InputTooLong}
use Rattle.kex_pipeline.specs.declared.pass.Trouble.{Trouble}
use Rattle.kex_pipeline.specs.declared.pass.Trouble.TheVariants as trouble

-- The object keeps its bytes and its count.
abbrev pub IsAsBefore : StreamChange → Type 0
IsAsBefore c = (c.new ≡ c.old) × (c.now ≡ c.before)

abbrev pub Left : StreamChange → StreamChange → Type 0
Left source sink = IsAsBefore source × IsAsBefore sink

-- The report as a status.
abbrev pub status_for : Why → Report → Status
status_for Byte r = Rejected r
status_for End r = Rejected r
status_for Limit r = TooLong r

abbrev pub status_of : Option Report → Status
status_of None = Done
status_of (Some r) = status_for r.why r

abbrev pub status_after : Trouble → Status
status_after trouble.Memory = Memory
status_after trouble.Write = WriteFault

-- All was written that the run had to say.
abbrev pub is_whole : Status → Bool
is_whole Done = true
is_whole (Rejected r) = true
is_whole (TooLong r) = true
is_whole InputTooLong = true
is_whole ReadFault = true
is_whole _ = false

module _ (says : List ℕ → Bool → Said → Type 0) where
  -- The whole text that is said on w was written, and what is said has this report.
  pub record WritesAll (w : List ℕ) (e : Bool) (report : Option Report)
      (sink : StreamChange) : Type 0 where
    pub said : Said
    pub is_said : says w e said
    pub reports : said.report ≡ report
    pub appended : Appends sink.old sink.new said.text

  -- After a failed write: a front of the text, that begins with the text of all bytes read but for
  -- as many as the last read gave, at most.
  pub record WritesBegun (last : ℕ) (w : List ℕ) (e : Bool) (sink : StreamChange) : Type 0 where
    pub said : Said
    pub is_said : says w e said
    pub added : List ℕ
    pub appended : Appends sink.old sink.new added
    pub front : IsPrefix added said.text
    pub begun : last < length w → (v u : List ℕ) × (earlier : Said) × (w ≡ v ++ u)
        × (length u ≤ last) × says v false earlier × IsPrefix earlier.text added

  -- Some front of w said the bytes.
  abbrev pub IsSaidBy : List ℕ → List ℕ → Type 0
  IsSaidBy w added = (v : List ℕ) × (earlier : Said) × IsPrefix v w × says v false earlier
      × (added ≡ earlier.text)

  -- After want of memory: nothing, or the text of a front of w; in any case a front of what is said
  -- on w.
  pub record WritesEarlier (w : List ℕ) (e : Bool) (sink : StreamChange) : Type 0 where
    pub added : List ℕ
    pub appended : Appends sink.old sink.new added
    pub from : (added ≡ []) ⊎ IsSaidBy w added
    pub front : (said : Said) → says w e said → IsPrefix added said.text

  -- What each status says of a run that read w, and the end after it where e.
  abbrev pub EndsAs : ℕ → List ℕ → Bool → StreamChange → StreamChange → Status → Type 0
  EndsAs last w e source sink Done = (e ≡ true) × WritesAll w e None sink
      × (source.now ≡ source.before) × (sink.now ≡ sink.before)
  EndsAs last w e source sink (Rejected r) =
      (status_of (Some r) ≡ Rejected r) × WritesAll w e (Some r) sink × (source.now ≡ source.before)
      × (sink.now ≡ sink.before)
  EndsAs last w e source sink (TooLong r) =
      (status_of (Some r) ≡ TooLong r) × WritesAll w e (Some r) sink × (source.now ≡ source.before)
      × (sink.now ≡ sink.before)
  EndsAs last w e source sink ReadFault = (e ≡ false) × WritesAll w e None sink
      × CallHasFailed source × (sink.now ≡ sink.before)
  EndsAs last w e source sink WriteFault = WritesBegun last w e sink × (source.before ≤ source.now)
      × CallHasFailed sink
  EndsAs last w e source sink Memory = WritesEarlier w e sink × (source.now ≡ source.before)
      × (sink.now ≡ sink.before)
  EndsAs last w e source sink _ = ⊥

  -- A run: what it read, whether to the end, and what its status says.
  pub record Ran (last : ℕ) (source sink : StreamChange) (status : Status) : Type 0 where
    pub w : List ℕ
    pub e : Bool
    pub read : Consumes source.old source.new w
    pub ended : e ≡ true → IsAtEnd source.new
    pub ends : EndsAs last w e source sink status

  -- A run before the sink is closed: where all was written, something is said on what was read as
  -- open input.
  abbrev pub Pumped : ℕ → StreamChange → StreamChange → Status → Type 0
  Pumped last source sink status = (ran : Ran last source sink status)
      × (is_whole status ≡ true → (earlier : Said) × says ran.w false earlier)
