use Rattle.std.proofs.Common.{[], ◌∷◌, refl}
use Rattle.llsc_words.specs.Request.{Solo, Assemble, Disassemble, Trace, Check, Explain}
use Rattle.llsc_texts.specs.Assembly.{AnswersAsm}
use Rattle.llsc_texts.specs.Disassembly.{AnswersDis}
use Rattle.llsc_call.specs.Answer.{Answers, AnswersSolo}
use Rattle.llsc_call.specs.Check.{AnswersCheck}
use Rattle.llsc_call.specs.Explain.{AnswersExplain}
use Rattle.llsc_call.specs.Trace.{AnswersTrace}
use Rattle.llsc_call.proofs.Outcomes.{gives_alone}
use Rattle.llsc_call.proofs.commands.answer.Goals as goal

pub returns-in-Solo : goal.returns-in-Solo
returns-in-Solo g c =
    let h = c.in-Solo in
    let first = c.args.files.first.items in
    let made = (c.outcome).result in
    let whole = c.from in
    rw h.is
    (gives_alone (AnswersSolo h.format h.mem h.budget first) (Answers (Solo h.file.now h.format h.mem h.budget) (first ∷ [])) made whole.result.outcome whole.result.story whole.ensures.outcome whole.ensures.story
    (λ s text a. (refl, a)) (c.outcome).ensures)

pub returns-in-Assemble : goal.returns-in-Assemble
returns-in-Assemble g c =
    let h = c.in-Assemble in
    let first = c.args.files.first.items in
    let made = (c.outcome-in-Assemble).result in
    let whole = c.from-in-Assemble in
    rw h.is
    (gives_alone (AnswersAsm h.format first) (Answers (Assemble h.file.now h.format) (first ∷ [])) made whole.result.outcome whole.result.story whole.ensures.outcome whole.ensures.story
    (λ s text a. (refl, a)) (c.outcome-in-Assemble).ensures)

pub returns-in-Disassemble : goal.returns-in-Disassemble
returns-in-Disassemble g c =
    let h = c.in-Disassemble in
    let first = c.args.files.first.items in
    let made = (c.outcome-in-Disassemble).result in
    let whole = c.from-in-Disassemble in
    rw h.is
    (gives_alone (AnswersDis h.format h.mem first) (Answers (Disassemble h.file.now h.format h.mem) (first ∷ [])) made whole.result.outcome whole.result.story whole.ensures.outcome whole.ensures.story
    (λ s text a. (refl, a)) (c.outcome-in-Disassemble).ensures)

pub returns-in-Trace : goal.returns-in-Trace
returns-in-Trace g c =
    let h = c.in-Trace in
    let first = c.args.files.first.items in
    let made = (c.outcome-in-Trace).result in
    let whole = c.from-in-Trace in
    rw h.is
    (gives_alone (AnswersTrace h.format h.numbers.threads h.numbers.mem h.numbers.granule h.numbers.seed h.numbers.budget first) (Answers (Trace h.file.now h.format h.numbers.threads h.numbers.mem h.numbers.granule h.numbers.seed h.numbers.budget) (first ∷ [])) made whole.result.outcome whole.result.story whole.ensures.outcome whole.ensures.story
    (λ s text a. (refl, a)) (c.outcome-in-Trace).ensures)

pub returns-in-Check : goal.returns-in-Check
returns-in-Check g c =
    let h = c.in-Check in
    let first = c.args.files.first.items in
    let made = (c.outcome-in-Check).result in
    let whole = c.from-in-Check in
    rw h.is
    (gives_alone (AnswersCheck h.format h.mem first c.args.files.second.items) (Answers (Check h.file.now h.recorded.now h.format h.mem) (first ∷ c.args.files.second.items ∷ [])) made whole.result.outcome whole.result.story whole.ensures.outcome whole.ensures.story
    (λ s text a. (refl, a)) (c.outcome-in-Check).ensures)

pub returns-in-Explain : goal.returns-in-Explain
returns-in-Explain g c =
    let h = c.in-Explain in
    let first = c.args.files.first.items in
    let made = (c.outcome-in-Explain).result in
    let whole = c.from-in-Explain in
    rw h.is
    (gives_alone (AnswersExplain h.format h.mem first c.args.files.second.items) (Answers (Explain h.file.now h.recorded.now h.format h.mem) (first ∷ c.args.files.second.items ∷ [])) made whole.result.outcome whole.result.story whole.ensures.outcome whole.ensures.story
    (λ s text a. (refl, a)) (c.outcome-in-Explain).ensures)

pub returns-in-Run : goal.returns-in-Run
returns-in-Run g c = rw c.in-Run.is c.answer.ensures

pub returns-in-Pool : goal.returns-in-Pool
returns-in-Pool g c = rw c.in-Pool.is (c.answer-in-Pool).ensures

pub returns-in-Record : goal.returns-in-Record
returns-in-Record g c = rw c.in-Record.is (c.answer-in-Record).ensures
