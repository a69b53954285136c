-- What a mark says.
use Rattle.std.specs.Prelude.{ℕ, Some, None}
use Rattle.std.specs.declared.option.Option.{Option}
use Rattle.plain_pool.specs.declared.marks.Mark.{Mark}
use Rattle.plain_pool.specs.declared.marks.Mark.TheVariants.{Blank, Granted, Link}

-- the number under which an object is held
abbrev pub number_in : Mark → Option ℕ
number_in (Granted number) = Some number
number_in Blank = None
number_in (Link next) = None

-- the private object that comes next
abbrev pub link_in : Mark → Option ℕ
link_in (Link next) = next
link_in Blank = None
link_in (Granted number) = None
