use Rattle.std.proofs.Common.{ℕ, sym, ap, ◌∙◌, subst, arith}
use Rattle.std.proofs.lemmas.List.{with_items_is}
use Rattle.name_board.specs.declared.rule.BoardView.{BoardView}
use Rattle.name_board.specs.Board.{view}
use Rattle.trace_reader.specs.Acts.{bound_by}
use Rattle.thread_lines.specs.Binding.{AddsBound}
use Rattle.thread_lines.specs.Heaps.{AreHeaps}
use Rattle.thread_lines.proofs.SlotLemmas.{serves_same}
use Rattle.thread_lines.proofs.worker.make_call.Goals as goal

pub bind_if-requires-clause-name : goal.bind_if-requires-clause-name
bind_if-requires-clause-name g c name is = let q = c.requires.bound name is in
    (q.0, (q.1.0, c.wait_for_asked-word.ensures.pen.2 ∙ q.1.1, q.1.2, q.1.3))

pub returns-clause-heaps : goal.returns-clause-heaps
returns-clause-heaps g c = let len = c.ask-said.ensures.len in let lent = c.as_mut_slice.ensures.len in
    subst (AreHeaps g.R.Raw.out g.R.Raw.faults g.R.Raw.got g.R.Raw.passed c.args.pools.now c.args.worker.now.thread)
    (sym (with_items_is c.args.worker.now.heaps c.ask-said.new.heaps (omega arith))) c.ask-said.ensures.heaps

pub returns-clause-said : goal.returns-clause-said
returns-clause-said g c =
    let w = c.wait_for_asked-word.ensures in
    let b = c.bind_if.ensures in
    let len = c.ask-said.ensures.len in
    let lent = c.as_mut_slice.ensures.len in
    let seen = c.wait_for_asked-word.new.pen.me.0.known in
    let old = with_items_is c.args.worker.now.heaps c.ask-said.new.heaps (omega arith) in
    let cursors = ap (λ cs. view cs seen) w.pen.2 in
    record {
      pen = b.pen.0 ∙ w.pen.0;
      slots = b.pen.1 ∙ w.pen.1;
      request = c.request_with-request.result;
      said = c.ask-said.result;
      seen = seen;
      known = w.known;
      asks = record {
        word = c.wait_for_asked-word.result;
        known = w.asked;
        request_is = c.request_with-request.ensures;
      };
      serves = serves_same c.args.worker.now.heaps.items c.as_mut_slice.result.now c.ask-said.new.heaps _
          c.args.own.now.pool c.request_with-request.result c.ask-said.result c.as_mut_slice.ensures.value old
          c.ask-said.ensures.serves;
      binds = subst {A = ℕ × BoardView} (λ z. AddsBound (bound_by c.args.own.now.call) z.0 z.1 c.bind_if.new.pen.me.0)
          (λ k. (c.word_of.ensures.word k, cursors k)) b.bound;
      kept = c.keep.ensures.items;
      len = c.keep.ensures.len;
      capacity = c.keep.ensures.capacity;
    }
