use Rattle.std.proofs.Common.{◌≡◌, ◌∙◌, ap, sym, subst, List, ℕ, map, Vec, Global}
use Rattle.std.specs.Prelude.{Some, None}
use Rattle.std.specs.declared.option.Option.{Option}
use Rattle.arrayvec.specs.ArrayVec.{ArrayVec}
use Rattle.pool_types.specs.declared.texts.ThreadName.{ThreadName}
use Rattle.pool_types.specs.Texts.{name_bytes}
use Rattle.trace_reader.specs.declared.refusal.Refusal.{Refusal}
use Rattle.trace_reader.specs.declared.acts.PoolOption.{PoolOption}
use Rattle.trace_reader.specs.declared.acts.TraceLine.{TraceLine}
use Rattle.trace_reader.specs.Contexts.{context_of}
use Rattle.trace_reader.specs.Text.{Outcome, AllRead, IsReadAs}
use Rattle.trace_reader.specs.Steps.{AddsLine}
use Rattle.trace_reader.proofs.TextLemmas.{one_refused, one_read, all_read, last_refused, empty_text, some_text}
use Rattle.trace_reader.proofs.trace.read_lines.Goals as goal

pub returns-in-Some-2 : goal.returns-in-Some-2
returns-in-Some-2 c =
    let reading = c.loop-text.reading in
    one_refused c.args.forms c.args.bytes.now c.loop-text.rest.now c.in-Some.text.now c.in-Some.more.now c.loop-text.number (context_of reading.context) (context_of c.add.new.self.context) reading.lines.items
    c.add.new.self.lines.items c.in-Some-2.refusal (record { is = c.in-Some.ensures.0; whole = c.in-Some.ensures.1 }) c.loop-text.invariant
    (subst (λ (o : Option Refusal). AddsLine c.args.forms c.loop-text.number c.in-Some.text.now (context_of reading.context) reading.lines.items o (context_of c.add.new.self.context) c.add.new.self.lines.items)
    c.in-Some-2.is c.in_ok-refusal.ensures)

pub loop-text-preserved : goal.loop-text-preserved
loop-text-preserved c =
    let reading = c.loop-text.reading in
    one_read c.args.forms c.args.bytes.now c.loop-text.rest.now c.in-Some.text.now c.in-Some.more.now c.loop-text.number (context_of reading.context) (context_of c.add.new.self.context) reading.lines.items
    c.add.new.self.lines.items (record { is = c.in-Some.ensures.0; whole = c.in-Some.ensures.1 }) c.loop-text.invariant
    (subst (λ (o : Option Refusal). AddsLine c.args.forms c.loop-text.number c.in-Some.text.now (context_of reading.context) reading.lines.items o (context_of c.add.new.self.context) c.add.new.self.lines.items)
    c.in_default-2.is c.in_ok-refusal.ensures)

pub returns-then-not-is_empty : goal.returns-then-not-is_empty
returns-then-not-is_empty c =
    last_refused c.args.forms c.args.bytes.now c.loop-text.rest.now c.loop-text.number (context_of c.loop-text.reading.context) c.loop-text.reading.lines.items c.in_default.ensures
    (some_text c.loop-text.rest.now c.if-not-is_empty.ensures) c.loop-text.invariant

pub returns : goal.returns
returns c =
    let reading = c.loop-text.reading in
    let trace = c.into_trace.result in
    let names : List (List ℕ) = map name_bytes reading.context.names.items in
    subst (λ (o : Outcome). IsReadAs c.args.forms c.args.bytes.now o)
    (sym
    (ap (λ (lines : Vec TraceLine Global). AllRead lines.items (map name_bytes trace.names.items) trace.pools.items) c.into_trace.ensures.lines
    ∙ ap (λ (ns : ArrayVec ThreadName). AllRead reading.lines.items (map name_bytes ns.items) trace.pools.items) c.into_trace.ensures.names
    ∙ ap (λ (pools : Vec (ArrayVec PoolOption) Global). AllRead reading.lines.items names pools.items) c.into_trace.ensures.pools))
    (all_read c.args.forms c.args.bytes.now c.loop-text.rest.now c.loop-text.number (context_of reading.context) reading.lines.items c.in_default.ensures
    (empty_text c.loop-text.rest.now c.if-not-is_empty.ensures) c.loop-text.invariant)
