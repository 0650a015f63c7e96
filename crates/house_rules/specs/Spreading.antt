-- How ties are spread over routers and questions.
use Rattle.std.specs.Prelude.{ℕ, ◌+◌, ◌%◌, ◌^◌, max, length}
use Rattle.routing_laws.specs.Filling.{Asked}

-- the position for a question, after so many questions: it moves on by one from each to the next, and from each router
-- to its neighbour on the East and on the North
abbrev pub spread : ℕ → Asked → ℕ
spread count q = (count + q.router.x + q.router.y) % max (length q.candidates) 1

-- one question more, in sixteen bits
abbrev pub counted : ℕ → ℕ
counted count = (count + 1) % 2 ^ 16
