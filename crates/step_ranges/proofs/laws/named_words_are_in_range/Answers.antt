use Rattle.step_ranges.proofs.Examples.{named_words_are_in_range}
use Rattle.step_ranges.proofs.laws.named_words_are_in_range.Goals as goal

pub returns : goal.returns
returns c = named_words_are_in_range
