use Rattle.std.proofs.Common.{inl, inr, map}
use Rattle.llsc_words.specs.Request.{files_of}
use Rattle.llsc_host.proofs.Steadiness.{one_file, unrisen}
use Rattle.llsc_call.proofs.steady_call.steady.Goals as goal

pub returns-clause-ended : goal.returns-clause-ended
returns-clause-ended g c = elim c.llsc.ensures.ended [
  | inl done ↦ inl done
  | inr (inl two) ↦ inr (inl two)
  | inr (inr (inl three)) ↦ absurd (unrisen (c.llsc.ensures.read three).0.0)
  | inr (inr (inr (inl five))) ↦ absurd (unrisen (c.llsc.ensures.write five))
  | inr (inr (inr (inr six))) ↦ inr (inr six)
]

pub returns-clause-refused : goal.returns-clause-refused
returns-clause-refused g c = λ none. elim (c.llsc.ensures.refused none) [
  | inl two ↦ inl two
  | inr (inl five) ↦ absurd (unrisen (c.llsc.ensures.write five))
  | inr (inr six) ↦ inr six
]

pub returns-clause-answered : goal.returns-clause-answered
returns-clause-answered g c = λ asked is.
    let file = c.args.host.now.file in
    c.llsc.ensures.complete asked (map (λ name. file) (files_of asked)) is (one_file file (files_of asked)) unrisen (inl unrisen)
