-- Lines end at a line feed.
use Rattle.std.specs.Prelude.{ℕ, suc, List, [], ◌∷◌, ◌==◌, if◌then◌else◌}
use Rattle.kex_tokens.specs.Bytes.{line_feed}

-- how many line feeds there are
unfoldable pub feeds : List ℕ → ℕ
feeds [] = 0
feeds (b ∷ bs) = if b == line_feed then suc (feeds bs) else feeds bs

-- how many bytes come after the last line feed, where n of them come before these bytes
unfoldable pub behind_feed : ℕ → List ℕ → ℕ
behind_feed n [] = n
behind_feed n (b ∷ bs) = behind_feed (if b == line_feed then 0 else suc n) bs
