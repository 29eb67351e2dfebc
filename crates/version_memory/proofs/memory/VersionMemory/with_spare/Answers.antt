use Rattle.std.proofs.Common.{◌≡◌, length, nat_lt, refl, ap, ◌∙◌, arith}
use Rattle.std.proofs.lemmas.Result.{IfOk-from_err}
use Rattle.llsc_base.specs.Images.{Program}
use Rattle.history.specs.Memory.{IsMemory}
use Rattle.shared_memory.proofs.FirstWords.{some-class}
use Rattle.version_rule.proofs.Opening.{opens}
use Rattle.version_memory.proofs.Betweens.{between-first}
use Rattle.version_memory.proofs.memory.VersionMemory.with_spare.Goals as goal

pub of_words-requires : goal.of_words-requires
of_words-requires c =
    let size = c.args.size.now in
    let image = c.args.image.now in
    let is : c.of.result.value ≡ image = c.of.ensures in
    let long : length image.bytes ≡ size.mem = c.requires.bytes in
    let classes : c.classes.result ≡ size.classes = c.classes.ensures.number in
    let bytes : c.bytes.result.now ≡ image.bytes = c.bytes.ensures.items in
    let first = c.in_ok-words.ensures in
    let memory : IsMemory size c.of.result.value.bytes = record {
      sized = ap (λ (p : Program). length p.bytes) is ∙ long;
      whole = (let pages = c.mem-mem.ensures.pages in let number = c.mem-mem.ensures.number in omega arith);
      small = λ k. rw (is, ← bytes) (c.initial_words.ensures.bytes k);
    } in
    opens (record { size = size; first = c.args.first; spare = c.args.spare; image = c.of.result }) c.as_slice.result.now memory
    (rw c.as_slice.ensures.value (omega (arith, first.long, ap length bytes)))
    (λ i h. rw c.as_slice.ensures.value (first.zeros i (omega arith)))
    (λ i h. rw (c.as_slice.ensures.value, is, ← bytes, ← classes) (first.cells i (omega (arith, ap length bytes))))
    (λ i h. rw c.as_slice.ensures.value (first.behind i (omega (arith, ap length bytes))))

pub invariant_of-memory : goal.invariant_of-memory
invariant_of-memory c =
    let size = c.args.size.now in
    let long : length c.args.image.now.bytes ≡ size.mem = c.requires.bytes in
    let classes : c.classes.result ≡ size.classes = c.classes.ensures.number in
    let bytes : c.bytes.result.now ≡ c.args.image.now.bytes = c.bytes.ensures.items in
    let first = c.in_ok-words.ensures in
    let made = c.in_ok-table.ensures in
    rw made.5 (record {
      sized = refl;
      dealt = (refl, refl);
      made = record {
        sized = made.0 ∙ rw c.as_slice.ensures.value (omega (arith, first.long, ap length bytes));
        slotless = made.1;
        some_first = c.requires.some;
        all = c.requires.all;
        few = (let number = c.threads-threads.ensures.number in let most = c.threads-threads.ensures.most in omega arith);
        some_class = some-class size.classes (rw (← classes) c.classes.ensures.power);
        whole = (let pages = c.mem-mem.ensures.pages in let number = c.mem-mem.ensures.number in omega arith);
        short = (let number = c.limit-limit.ensures.number in let most = c.limit-limit.ensures.most in omega arith);
      };
    })

pub invariant_of-pass-clause-between : goal.invariant_of-pass-clause-between
invariant_of-pass-clause-between c =
    let size = c.args.size.now in
    let number : c.threads-threads.result ≡ size.threads = c.threads-threads.ensures.number in
    rw c.in_ok-table.ensures.4 (between-first size.threads c.first_marks.result (let least = c.threads-threads.ensures.least in omega arith) (λ t. c.first_marks.ensures t ∙ ap (nat_lt t) number))

pub returns-in_err-words-clause-origin : goal.returns-in_err-words-clause-origin
returns-in_err-words-clause-origin c = IfOk-from_err _ _ c.from_residual.ensures.0

pub returns-in_err-words-clause-pass : goal.returns-in_err-words-clause-pass
returns-in_err-words-clause-pass c = IfOk-from_err _ _ c.from_residual.ensures.0

pub returns-in_err-words-clause-numbers : goal.returns-in_err-words-clause-numbers
returns-in_err-words-clause-numbers c = IfOk-from_err _ _ c.from_residual.ensures.0

pub returns-in_err-words-clause-seen : goal.returns-in_err-words-clause-seen
returns-in_err-words-clause-seen c = IfOk-from_err _ _ c.from_residual.ensures.0

pub returns-in_err-table-clause-origin : goal.returns-in_err-table-clause-origin
returns-in_err-table-clause-origin c = IfOk-from_err _ _ c.from_residual-in_err-table.ensures.0

pub returns-in_err-table-clause-pass : goal.returns-in_err-table-clause-pass
returns-in_err-table-clause-pass c = IfOk-from_err _ _ c.from_residual-in_err-table.ensures.0

pub returns-in_err-table-clause-numbers : goal.returns-in_err-table-clause-numbers
returns-in_err-table-clause-numbers c = IfOk-from_err _ _ c.from_residual-in_err-table.ensures.0

pub returns-in_err-table-clause-seen : goal.returns-in_err-table-clause-seen
returns-in_err-table-clause-seen c = IfOk-from_err _ _ c.from_residual-in_err-table.ensures.0
