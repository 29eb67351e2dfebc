use Rattle.std.proofs.Common.{ap, sym, ◌∙◌}
use Rattle.llsc_base.specs.declared.outside.Ask.TheVariants.{StoreEx}
use Rattle.llsc_base.specs.Effects.{completes}
use Rattle.guest_core.specs.inner.Asking.{asked_first}
use Rattle.llsc_base.specs.declared.access.Size.TheVariants.{B4}
use Rattle.rv32_guest.specs.Accesses.{place_of}
use Rattle.rv32_guest.specs.State.{advanced, with_register}
use Rattle.rv32_guest.proofs.CarriedOn.{served_on}
use Rattle.rv32_guest.proofs.registers.Registers.carry_conditional.Goals as goal

pub returns-clause-carried : goal.returns-clause-carried
returns-clause-carried g c =
    served_on c.args.image.now (StoreEx c.place.result c.from.result) c.in-Some.reply
    (sym (ap (λ p. asked_first c.args.image.now (StoreEx p c.from.result)) c.place.ensures ∙ ap (λ v. asked_first c.args.image.now (StoreEx (place_of B4 c.args.addr) v)) c.from.ensures)) c.in-Some.ensures.passes c.in-Some.ensures.replied
    (sym (ap completes (c.advance_with.ensures ∙ ap (λ v. advanced (with_register c.args.self.now c.args.rd v)) c.low_word.ensures)))
