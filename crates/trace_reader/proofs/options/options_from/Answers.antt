use Rattle.std.proofs.Common.{get_or, subst, sym, rules, drop, map, arith, ◌+◌, ◌≡◌, ◌∙◌, ap, true, false, List, length, ◌<◌}
use Rattle.std.specs.Prelude.{Err}
use Rattle.trace_reader.specs.declared.acts.PoolOption.{PoolOption}
use Rattle.trace_reader.specs.Words.{bytes_in}
use Rattle.trace_reader.specs.Options.{ReadsOptions, has_option}
use Rattle.trace_reader.proofs.OptionLemmas.{AreApart, no_word, words_from, option_refused, option_twice, option_more, AreApart-more, AreApart-none, room_for}
use Rattle.trace_reader.proofs.options.options_from.Goals as goal

pub loop-i-init : goal.loop-i-init
loop-i-init c = record {
  among = λ result reads. subst (λ (had : List PoolOption). ReadsOptions had (drop c.args.at (map bytes_in c.args.words.now)) result) c.new-options.ensures reads;
  apart = subst AreApart (sym c.new-options.ensures) AreApart-none;
}

pub returns-in_err-option : goal.returns-in_err-option
returns-in_err-option c =
    let refused = c.loop-i.invariant.among (Err c.in_err-option.field-0.0) (option_refused c.loop-i.options.items (drop c.loop-i.i (map bytes_in c.args.words.now)) (drop (c.loop-i.i + 1) (map bytes_in c.args.words.now)) (get_or c.args.words.now c.loop-i.i no_word).now c.in_err-option.field-0.0
    (words_from c.args.words.now c.loop-i.i c.loop-i-test.true) c.in_err-option.ensures) in
    search (rules, refused)

pub returns-then-has_option : goal.returns-then-has_option
returns-then-has_option c =
    let twice : has_option c.loop-i.options.items c.in_ok-option.option ≡ true = ap (λ (had : List PoolOption). has_option had c.in_ok-option.option) (sym c.as_slice.ensures.value) ∙ sym c.if-has_option.ensures in
    c.loop-i.invariant.among _ (option_twice c.loop-i.options.items (drop c.loop-i.i (map bytes_in c.args.words.now)) (drop (c.loop-i.i + 1) (map bytes_in c.args.words.now)) (get_or c.args.words.now c.loop-i.i no_word).now c.in_ok-option.option
    (words_from c.args.words.now c.loop-i.i c.loop-i-test.true) c.in_ok-option.ensures twice)

pub push-requires : goal.push-requires
push-requires c =
    let new : has_option c.loop-i.options.items c.in_ok-option.option ≡ false = ap (λ (had : List PoolOption). has_option had c.in_ok-option.option) (sym c.as_slice.ensures.value) ∙ sym c.if-has_option.ensures in
    let room : length c.loop-i.options.items < 9 = room_for c.loop-i.options.items c.in_ok-option.option c.loop-i.invariant.apart new in
    (omega arith, room)

pub loop-i-preserved : goal.loop-i-preserved
loop-i-preserved c =
    let new : has_option c.loop-i.options.items c.in_ok-option.option ≡ false = ap (λ (had : List PoolOption). has_option had c.in_ok-option.option) (sym c.as_slice.ensures.value) ∙ sym c.if-has_option.ensures in
    record {
      among = λ result reads. c.loop-i.invariant.among result (option_more c.loop-i.options.items c.push.new.self.items (drop c.loop-i.i (map bytes_in c.args.words.now)) (drop (c.loop-i.i + 1) (map bytes_in c.args.words.now)) (get_or c.args.words.now c.loop-i.i no_word).now c.in_ok-option.option result
          (words_from c.args.words.now c.loop-i.i c.loop-i-test.true) c.in_ok-option.ensures new c.push.ensures.items reads);
      apart = subst AreApart (sym c.push.ensures.items) (AreApart-more c.loop-i.options.items c.in_ok-option.option c.loop-i.invariant.apart new);
    }
