-- What is drawn, one number after another.
use Rattle.std.specs.Prelude.{ℕ, ◌+◌, ◌*◌, ◌/◌, ◌%◌, ◌^◌}

-- the number that follows
abbrev pub next_number : ℕ → ℕ
next_number x = (x * 6364136223846793005 + 1442695040888963407) % 2 ^ 64

-- what a number gives: its 31 highest bits
abbrev pub drawn : ℕ → ℕ
drawn x = x / 2 ^ 33
