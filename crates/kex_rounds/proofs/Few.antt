-- Few bytes before a row of seats.
use Rattle.std.proofs.Common.{◌≡◌, ◌≤◌, ◌-◌, ℕ, List, [], ◌∷◌, length, true, arith}
use Rattle.kex_pipe.specs.Waiting.{unread_bytes}
use Rattle.kex_pipe.specs.declared.seat.Seat.{Seat}
use Rattle.kex_pipe.specs.declared.turn.Turn.{Ghosts}
use Rattle.kex_rounds.specs.Working.{HaveFew}

module _ {T : Type 0} (t : Ghosts T) where
  pub few-none : (most : ℕ) (ss : List (Seat T t)) → length ss ≡ 0 → HaveFew t most ss
  unfolding HaveFew
  few-none most [] e = tt
  few-none most (s ∷ ss) e = absurd (omega (arith, e))

  pub few-more : (most : ℕ) (s : Seat T t) (ss : List (Seat T t)) → s.staged.turned ≡ true → length (unread_bytes s.inbox) ≤ most → HaveFew t (most - length (unread_bytes s.inbox)) ss → HaveFew t most (s ∷ ss)
  unfolding HaveFew
  few-more most s ss turned within rest = (turned, within, rest)

  pub few-parts : (most : ℕ) (s : Seat T t) (ss : List (Seat T t)) → HaveFew t most (s ∷ ss) → (s.staged.turned ≡ true) × (length (unread_bytes s.inbox) ≤ most) × HaveFew t (most - length (unread_bytes s.inbox)) ss
  unfolding HaveFew
  few-parts most s ss few = few
