use Rattle.std.proofs.Common.{IfErr, ◌∙◌, ◌≤◌, subst, sym}
use Rattle.std.proofs.lemmas.Result.{IfOk-weaker}
use Rattle.llsc_words.specs.Request.{machine_by, size_of_run}
use Rattle.llsc_files.specs.Programs.{IsLoadedAs}
use Rattle.llsc_files.specs.Refusals.{IsRefusal}
use Rattle.llsc_call.proofs.RunMachine.{loaded_alike, refused_alike, run_few, sound_size}
use Rattle.llsc_call.proofs.commands.run.load_run.Goals as goal

pub returns-clause-loaded : goal.returns-clause-loaded
returns-clause-loaded c =
    let made = machine_by c.whole_machine.result in
    let wanted = size_of_run c.args.numbers in
    let file = c.args.file.items in
    let whole = c.whole_machine.ensures in
    IfOk-weaker c.load_as.result (IsLoadedAs c.args.set c.args.format made file) (IsLoadedAs c.args.set c.args.format wanted file)
    (λ loaded had. loaded_alike c.args.set c.args.format made wanted file loaded whole.fault whole.machine had)
    c.load_as.ensures.loaded

pub returns-clause-few : goal.returns-clause-few
returns-clause-few c =
    let made = machine_by c.whole_machine.result in
    let n = c.args.numbers in
    let file = c.args.file.items in
    IfOk-weaker c.load_as.result (IsLoadedAs c.args.set c.args.format made file) (λ loaded. (1 ≤ n.machine.threads) × (n.machine.threads ≤ 16) × (n.spare ≤ 16))
    (λ loaded had. run_few n (sym c.whole_machine.ensures.fault ∙ sound_size c.args.set c.args.format made file had.sound))
    c.load_as.ensures.loaded

pub returns-clause-refused : goal.returns-clause-refused
returns-clause-refused c =
    let made = machine_by c.whole_machine.result in
    let wanted = size_of_run c.args.numbers in
    let whole = c.whole_machine.ensures in
    subst (λ against. IfErr c.load_as.result (IsRefusal against)) (refused_alike c.args.set c.args.format made wanted c.args.file.items whole.fault whole.machine) c.load_as.ensures.refused
