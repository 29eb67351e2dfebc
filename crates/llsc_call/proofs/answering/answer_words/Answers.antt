use Rattle.std.proofs.Common.{◌≡◌, ◌∙◌, ap, sym, subst, map, option_map, string_bytes, None, Some}
use Rattle.llsc_words.specs.Request.{asked, request_of}
use Rattle.llsc_host.proofs.Kept.{reads_same}
use Rattle.llsc_call.specs.inner.Comes.{Comes, refused}
use Rattle.llsc_call.proofs.answering.answer_words.Goals as goal

pub returns-in-None-clause-comes : goal.returns-in-None-clause-comes
returns-in-None-clause-comes g c =
    let none : request_of (map string_bytes c.args.words.now) ≡ None = sym c.in-Ok.ensures.request ∙ ap (option_map asked) c.in-None.is in
    refused none c.from-in-None.ensures.outcome c.from-in-None.ensures.story (reads_same g.H.Host c.args.host.now)

pub returns-in-Some-clause-comes : goal.returns-in-Some-clause-comes
returns-in-Some-clause-comes g c =
    let request : request_of (map string_bytes c.args.words.now) ≡ Some (asked c.in-Some.request) = sym c.in-Ok.ensures.request ∙ ap (option_map asked) c.in-Some.is in
    subst (λ r. Comes g.H.Host c.args.host.now c.answer_request.new.host r c.answer_request.result.outcome c.answer_request.result.story) (sym request) c.answer_request.ensures.comes
