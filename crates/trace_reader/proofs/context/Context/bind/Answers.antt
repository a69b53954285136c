use Rattle.std.proofs.Common.{◌≡◌, ◌+◌, ◌∙◌, ap, sym, refl, subst, List, ℕ, Some}
use Rattle.std.specs.Prelude.{if◌then◌else◌}
use Rattle.std.specs.declared.option.Option.{Option}
use Rattle.std.specs.BTreeMap.{get}
use Rattle.std.specs.Ordering.{is_eq, nat_cmp}
use Rattle.trace_reader.specs.Contexts.{Context, context_of}
use Rattle.trace_reader.specs.Names.{name_key}
use Rattle.trace_reader.specs.Acts.{MayBind, bound_by, with_bound}
use Rattle.trace_reader.proofs.ContextLemmas.{one_bound}
use Rattle.trace_reader.proofs.KeyLemmas.{kept_after}
use Rattle.trace_reader.proofs.context.Context.bind.Goals as goal

pub name_key-requires : goal.name_key-requires
name_key-requires c =
    let known : MayBind (context_of c.args.self.now) (Some c.in-Some.number) c.args.word.now =
    subst (λ (o : Option ℕ). MayBind (context_of c.args.self.now) o c.args.word.now) (sym c.bound_by.ensures ∙ c.in-Some.is) c.requires.known in
    known.1.0

pub returns : goal.returns
returns c =
    let before : Context = context_of c.args.self.now in
    let next : Context = context_of (record { names = c.args.self.now.names; pools = c.args.self.now.pools; bound = c.insert.new.self; count = c.in-Some.number + 1 }) in
    let word : List ℕ = c.args.word.now in
    let number : ℕ = c.in-Some.number in
    let old : ℕ → Option ℕ = get nat_cmp c.args.self.now.bound in
    let binds : bound_by c.args.call.now ≡ Some number = sym c.bound_by.ensures ∙ c.in-Some.is in
    let known : MayBind before (Some number) word = subst (λ (o : Option ℕ). MayBind before o word) binds c.requires.known in
    subst (λ (o : Option ℕ). next ≡ with_bound before o word) (sym binds)
    (one_bound before next number word refl refl
    (λ other. kept_after word other number (old (name_key other)) (get nat_cmp c.insert.new.self (name_key other)) known.1.0
    (c.in_ok-insert.ensures.updates.0 (name_key other)
    ∙ ap (λ (key : ℕ). if is_eq (nat_cmp key (name_key other)) then Some number else old (name_key other)) c.name_key.ensures))
    (ap (λ (n : ℕ). n + 1) known.0))
