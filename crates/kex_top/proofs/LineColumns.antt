-- Lines and columns of a text are no more than its bytes.
use Rattle.std.proofs.Common.{ℕ, suc, ◌+◌, ◌≤◌, Bool, true, false, List, [], ◌∷◌, ◌==◌, if◌then◌else◌, length, arith}
use Rattle.kex_reader.specs.Lines.{behind_feed, feeds}

one-more : (c : Bool) (n m : ℕ) → n ≤ m → (if c then suc n else n) ≤ suc m
one-more true n m le = omega arith
one-more false n m le = omega arith

pub few-feeds : (text : List ℕ) → feeds text ≤ length text
unfolding feeds
few-feeds [] = omega arith
few-feeds (b ∷ text) = one-more (b == 10) (feeds text) (length text) (few-feeds text)

at-most : (c : Bool) (n : ℕ) → (if c then 0 else suc n) ≤ suc n
at-most true n = omega arith
at-most false n = omega arith

pub few-behind : (n : ℕ) (text : List ℕ) → behind_feed n text ≤ n + length text
unfolding behind_feed
few-behind n [] = omega arith
few-behind n (b ∷ text) =
    let more = few-behind (if b == 10 then 0 else suc n) text in
    let start = at-most (b == 10) n in
    omega arith
