use Rattle.std.proofs.Common.{refl}
use Rattle.a32_step.proofs.RowDone.{came_by, tried}
use Rattle.a32_step.specs.inner.Coming.{unmet}
use Rattle.a32_step.proofs.execution.Execution.come.Goals as goal

pub returns-in-Unmet-clause-came : goal.returns-in-Unmet-clause-came
returns-in-Unmet-clause-came g c = unmet c.in-Unmet.is

pub returns-in-Other-clause-came : goal.returns-in-Other-clause-came
returns-in-Other-clause-came g c = came_by c.args.kept.now c.args.image.now c.args.self.now c.in-Other.is refl c.other.ensures.came

pub returns-in-Ldr-clause-came : goal.returns-in-Ldr-clause-came
returns-in-Ldr-clause-came g c = came_by c.args.kept.now c.args.image.now c.args.self.now c.in-Ldr.is refl c.load_kept.ensures.came

pub returns-in-LdrPre-clause-came : goal.returns-in-LdrPre-clause-came
returns-in-LdrPre-clause-came g c = came_by c.args.kept.now c.args.image.now c.args.self.now c.in-LdrPre.is refl c.load_kept-in-LdrPre.ensures.came

pub returns-in-LdrPost-clause-came : goal.returns-in-LdrPost-clause-came
returns-in-LdrPost-clause-came g c = came_by c.args.kept.now c.args.image.now c.args.self.now c.in-LdrPost.is refl c.load_kept-in-LdrPost.ensures.came

pub returns-in-Ldrb-clause-came : goal.returns-in-Ldrb-clause-came
returns-in-Ldrb-clause-came g c = came_by c.args.kept.now c.args.image.now c.args.self.now c.in-Ldrb.is refl c.load_kept-in-Ldrb.ensures.came

pub returns-in-LdrbPre-clause-came : goal.returns-in-LdrbPre-clause-came
returns-in-LdrbPre-clause-came g c = came_by c.args.kept.now c.args.image.now c.args.self.now c.in-LdrbPre.is refl c.load_kept-in-LdrbPre.ensures.came

pub returns-in-LdrbPost-clause-came : goal.returns-in-LdrbPost-clause-came
returns-in-LdrbPost-clause-came g c = came_by c.args.kept.now c.args.image.now c.args.self.now c.in-LdrbPost.is refl c.load_kept-in-LdrbPost.ensures.came

pub returns-in-Str-clause-came : goal.returns-in-Str-clause-came
returns-in-Str-clause-came g c = came_by c.args.kept.now c.args.image.now c.args.self.now c.in-Str.is refl c.store_kept.ensures.came

pub returns-in-StrPre-clause-came : goal.returns-in-StrPre-clause-came
returns-in-StrPre-clause-came g c = came_by c.args.kept.now c.args.image.now c.args.self.now c.in-StrPre.is refl c.store_kept-in-StrPre.ensures.came

pub returns-in-StrPost-clause-came : goal.returns-in-StrPost-clause-came
returns-in-StrPost-clause-came g c = came_by c.args.kept.now c.args.image.now c.args.self.now c.in-StrPost.is refl c.store_kept-in-StrPost.ensures.came

pub returns-in-Strb-clause-came : goal.returns-in-Strb-clause-came
returns-in-Strb-clause-came g c = came_by c.args.kept.now c.args.image.now c.args.self.now c.in-Strb.is refl c.store_kept-in-Strb.ensures.came

pub returns-in-StrbPre-clause-came : goal.returns-in-StrbPre-clause-came
returns-in-StrbPre-clause-came g c = came_by c.args.kept.now c.args.image.now c.args.self.now c.in-StrbPre.is refl c.store_kept-in-StrbPre.ensures.came

pub returns-in-StrbPost-clause-came : goal.returns-in-StrbPost-clause-came
returns-in-StrbPost-clause-came g c = came_by c.args.kept.now c.args.image.now c.args.self.now c.in-StrbPost.is refl c.store_kept-in-StrbPost.ensures.came

pub returns-in-LdrLsl-clause-came : goal.returns-in-LdrLsl-clause-came
returns-in-LdrLsl-clause-came g c = came_by c.args.kept.now c.args.image.now c.args.self.now c.in-LdrLsl.is refl c.load_added.ensures.came

pub returns-in-LdrbLsl-clause-came : goal.returns-in-LdrbLsl-clause-came
returns-in-LdrbLsl-clause-came g c = came_by c.args.kept.now c.args.image.now c.args.self.now c.in-LdrbLsl.is refl c.load_added-in-LdrbLsl.ensures.came

pub returns-in-StrLsl-clause-came : goal.returns-in-StrLsl-clause-came
returns-in-StrLsl-clause-came g c = came_by c.args.kept.now c.args.image.now c.args.self.now c.in-StrLsl.is refl c.store_added.ensures.came

pub returns-in-StrbLsl-clause-came : goal.returns-in-StrbLsl-clause-came
returns-in-StrbLsl-clause-came g c = came_by c.args.kept.now c.args.image.now c.args.self.now c.in-StrbLsl.is refl c.store_added-in-StrbLsl.ensures.came

pub returns-in-LdrLiteral-clause-came : goal.returns-in-LdrLiteral-clause-came
returns-in-LdrLiteral-clause-came g c = came_by c.args.kept.now c.args.image.now c.args.self.now c.in-LdrLiteral.is refl c.load_literal.ensures.came

pub returns-in-IfEq-clause-came : goal.returns-in-IfEq-clause-came
returns-in-IfEq-clause-came g c = tried c.args.kept.now c.args.image.now c.args.self.now c.in-IfEq.is 0 refl refl (λ had. refl) c.tries.ensures.passed c.tries.ensures.failed

pub returns-in-IfNe-clause-came : goal.returns-in-IfNe-clause-came
returns-in-IfNe-clause-came g c = tried c.args.kept.now c.args.image.now c.args.self.now c.in-IfNe.is 1 refl refl (λ had. refl) c.tries-in-IfNe.ensures.passed c.tries-in-IfNe.ensures.failed

pub returns-in-IfCs-clause-came : goal.returns-in-IfCs-clause-came
returns-in-IfCs-clause-came g c = tried c.args.kept.now c.args.image.now c.args.self.now c.in-IfCs.is 2 refl refl (λ had. refl) c.tries-in-IfCs.ensures.passed c.tries-in-IfCs.ensures.failed

pub returns-in-IfCc-clause-came : goal.returns-in-IfCc-clause-came
returns-in-IfCc-clause-came g c = tried c.args.kept.now c.args.image.now c.args.self.now c.in-IfCc.is 3 refl refl (λ had. refl) c.tries-in-IfCc.ensures.passed c.tries-in-IfCc.ensures.failed

pub returns-in-IfMi-clause-came : goal.returns-in-IfMi-clause-came
returns-in-IfMi-clause-came g c = tried c.args.kept.now c.args.image.now c.args.self.now c.in-IfMi.is 4 refl refl (λ had. refl) c.tries-in-IfMi.ensures.passed c.tries-in-IfMi.ensures.failed

pub returns-in-IfPl-clause-came : goal.returns-in-IfPl-clause-came
returns-in-IfPl-clause-came g c = tried c.args.kept.now c.args.image.now c.args.self.now c.in-IfPl.is 5 refl refl (λ had. refl) c.tries-in-IfPl.ensures.passed c.tries-in-IfPl.ensures.failed

pub returns-in-IfVs-clause-came : goal.returns-in-IfVs-clause-came
returns-in-IfVs-clause-came g c = tried c.args.kept.now c.args.image.now c.args.self.now c.in-IfVs.is 6 refl refl (λ had. refl) c.tries-in-IfVs.ensures.passed c.tries-in-IfVs.ensures.failed

pub returns-in-IfVc-clause-came : goal.returns-in-IfVc-clause-came
returns-in-IfVc-clause-came g c = tried c.args.kept.now c.args.image.now c.args.self.now c.in-IfVc.is 7 refl refl (λ had. refl) c.tries-in-IfVc.ensures.passed c.tries-in-IfVc.ensures.failed

pub returns-in-IfHi-clause-came : goal.returns-in-IfHi-clause-came
returns-in-IfHi-clause-came g c = tried c.args.kept.now c.args.image.now c.args.self.now c.in-IfHi.is 8 refl refl (λ had. refl) c.tries-in-IfHi.ensures.passed c.tries-in-IfHi.ensures.failed

pub returns-in-IfLs-clause-came : goal.returns-in-IfLs-clause-came
returns-in-IfLs-clause-came g c = tried c.args.kept.now c.args.image.now c.args.self.now c.in-IfLs.is 9 refl refl (λ had. refl) c.tries-in-IfLs.ensures.passed c.tries-in-IfLs.ensures.failed

pub returns-in-IfGe-clause-came : goal.returns-in-IfGe-clause-came
returns-in-IfGe-clause-came g c = tried c.args.kept.now c.args.image.now c.args.self.now c.in-IfGe.is 10 refl refl (λ had. refl) c.tries-in-IfGe.ensures.passed c.tries-in-IfGe.ensures.failed

pub returns-in-IfLt-clause-came : goal.returns-in-IfLt-clause-came
returns-in-IfLt-clause-came g c = tried c.args.kept.now c.args.image.now c.args.self.now c.in-IfLt.is 11 refl refl (λ had. refl) c.tries-in-IfLt.ensures.passed c.tries-in-IfLt.ensures.failed

pub returns-in-IfGt-clause-came : goal.returns-in-IfGt-clause-came
returns-in-IfGt-clause-came g c = tried c.args.kept.now c.args.image.now c.args.self.now c.in-IfGt.is 12 refl refl (λ had. refl) c.tries-in-IfGt.ensures.passed c.tries-in-IfGt.ensures.failed

pub returns-in-IfLe-clause-came : goal.returns-in-IfLe-clause-came
returns-in-IfLe-clause-came g c = tried c.args.kept.now c.args.image.now c.args.self.now c.in-IfLe.is 13 refl refl (λ had. refl) c.tries-in-IfLe.ensures.passed c.tries-in-IfLe.ensures.failed
