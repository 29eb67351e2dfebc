-- An instruction that acts over whoever replies to its accesses.
use Rattle.std.proofs.Common.{◌≡◌, ◌≢◌, ◌<◌, length, ℕ, Option, Some, None, List, [], ◌∷◌, ◌++◌, drop, slice_get, refl, sym, ap, subst, ◌∙◌}
use Rattle.llsc_base.specs.Images.{Program}
use Rattle.llsc_base.specs.declared.outside.Ask.{Ask}
use Rattle.a32_instr.specs.State.{State, Effect}
use Rattle.llsc_base.specs.Effects.{asks, calls, completes, stops}
use Rattle.a32_step.specs.declared.phases.Progress.{Progress}
use Rattle.a32_step.specs.declared.phases.Progress.TheVariants as progress
use Rattle.guest_core.specs.inner.Asking.{asked_first}
use Rattle.guest_core.proofs.Asked.{asked_passed, asked_stopped}
use Rattle.a32_step.specs.inner.Progress.{progress_of}
use Rattle.a32_step.specs.inner.ExecutionState.{ExecutionState, Stage, HasRoom, Between, Inside, Awaiting, Calling, Stopped, moves, resting, settled, wanted_at}
use Rattle.a32_step.specs.inner.Acting.{IsSilent, IsGiven, begins, none_made, one_more, StandsAt, IsActed, IsReplied, had_before, replied, unmade, barred, with_reply}

-- the first of some replies, if there is one
first_had : (had : List ℕ) (reply : ℕ) → slice_get had 0 ≡ Some reply → had ≡ reply ∷ drop 1 had
first_had [] reply is = absurd (cc (is))
first_had (x ∷ xs) reply is = ap (λ (r : ℕ). r ∷ xs) (cc (is))

none_had : (had : List ℕ) → slice_get had 0 ≡ None → had ≡ []
none_had [] is = refl
none_had (x ∷ xs) is = absurd (cc (is))

-- ---- where it stands

-- one that is held isn't between two instructions
pub held_stage : (old : ExecutionState) (effect : Effect) {after : ExecutionState} {p : Progress} → p ≡ progress_of effect → after ≡ moves old effect → p ≡ progress.Held → after.stage ≢ Between
held_stage old effect same moved held is = off effect (sym same ∙ held) (ap (λ (s : ExecutionState). s.stage) (sym moved) ∙ is)
  where
    off : (e : Effect) → progress_of e ≡ progress.Held → (moves old e).stage ≢ Between
    off (asks ask) h = λ e. cc
    off (calls call) h = λ e. cc
    off (completes state) h = λ e. cc
    off (stops stop) h = λ e. cc

-- a stage that isn't between two instructions may have replies
pub has_room : (stage : Stage) (had : List ℕ) → stage ≢ Between → length had < 16 → HasRoom stage had
has_room Between had other few = absurd (other refl)
has_room Inside had other few = tt
has_room (Awaiting ask) had other few = few
has_room (Calling call) had other few = tt
has_room (Stopped stop) had other few = tt

-- one that asks for nothing
stands_moved : (old : ExecutionState) (effect : Effect) → StandsAt old.replies old effect (moves old effect)
stands_moved old (asks ask) = refl
stands_moved old (calls call) = refl
stands_moved old (completes state) = (refl, λ rest. ap (λ (s : ExecutionState). record s { state = state }) rest)
stands_moved old (stops stop) = refl

-- one of one access, whose reply is kept where it is held
stands_after : (old after new : ExecutionState) (reply : ℕ) (had : List ℕ) (p : Progress) (effect : Effect) → had ≡ with_reply reply old.replies
    → p ≡ progress_of effect → after ≡ moves old effect → (p ≡ progress.Complete → new ≡ after) → (p ≡ progress.Held → new ≡ record after { replies = with_reply reply after.replies })
    → StandsAt had old effect new
stands_after old after new reply had p (asks ask) had_is same moved done held =
    held same ∙ ap (λ (s : ExecutionState). record s { replies = with_reply reply s.replies }) moved ∙ ap (λ hs. record old { stage = Awaiting ask; replies = hs }) (sym had_is)
stands_after old after new reply had p (calls call) had_is same moved done held =
    held same ∙ ap (λ (s : ExecutionState). record s { replies = with_reply reply s.replies }) moved ∙ ap (λ hs. record old { stage = Calling call; replies = hs }) (sym had_is)
stands_after old after new reply had p (completes state) had_is same moved done held =
    let is : new ≡ record old { state = state } = done same ∙ moved in
    (ap (λ (s : ExecutionState). s.state) is, λ rest. is ∙ ap (λ (s : ExecutionState). record s { state = state }) rest)
stands_after old after new reply had p (stops stop) had_is same moved done held =
    held same ∙ ap (λ (s : ExecutionState). record s { replies = with_reply reply s.replies }) moved ∙ ap (λ hs. record old { stage = Stopped stop; replies = hs }) (sym had_is)

-- a block, whose replies were kept as they came, and which is over where it is complete
pub stands_over : (old standing after new : ExecutionState) (p : Progress) (effect : Effect) → standing ≡ record old { stage = Inside; replies = standing.replies }
    → p ≡ progress_of effect → after ≡ moves standing effect → (p ≡ progress.Complete → new ≡ resting after.state) → (p ≡ progress.Held → new ≡ after)
    → StandsAt standing.replies old effect new
stands_over old standing after new p (asks ask) is same moved done held = held same ∙ moved ∙ ap (λ (s : ExecutionState). record s { stage = Awaiting ask }) is
stands_over old standing after new p (calls call) is same moved done held = held same ∙ moved ∙ ap (λ (s : ExecutionState). record s { stage = Calling call }) is
stands_over old standing after new p (completes state) is same moved done held =
    let over : new ≡ resting state = done same ∙ ap (λ (s : ExecutionState). resting s.state) moved in
    (ap (λ (s : ExecutionState). s.state) over, λ rest. over)
stands_over old standing after new p (stops stop) is same moved done held = held same ∙ moved ∙ ap (λ (s : ExecutionState). record s { stage = Stopped stop }) is

-- the replies that it had before are all that it has had
with_first : (reply : ℕ) (had : List ℕ) → slice_get had 0 ≡ Some reply → had ≡ with_reply reply had
with_first reply [] is = absurd (cc (is))
with_first reply (first ∷ had) is = refl

-- an instruction of one access has this reply: the first of those that it had, or the source's
record HasOne {S : Type 0} (replies : S → Ask → Option ℕ → S → Type 0) (effect : List ℕ → Effect) (old : ExecutionState) (from : S) (reply : ℕ) (mid : ExecutionState) (to : S) : Type 0 where
  had : List ℕ
  rest : List ℕ
  same : mid ≡ old
  had_is : had ≡ reply ∷ rest
  had_with : had ≡ with_reply reply old.replies
  given : IsGiven replies effect old.replies from had to

module _ {S : Type 0} {replies : S → Ask → Option ℕ → S → Type 0} {old : ExecutionState} {from : S} (effect : List ℕ → Effect) where
  pub acted_by : {p : Progress} {new : ExecutionState} {to : S} (had : List ℕ) (e : Effect) → effect had ≡ e → IsGiven replies effect old.replies from had to
      → p ≡ progress_of e → StandsAt had old e new → IsActed replies effect old from p new to
  acted_by {new = new} had e is given same stands =
      record { had = had; given = given; came = same ∙ ap progress_of (sym is); stands = subst (λ x. StandsAt had old x new) (sym is) stands }

  -- one that asks for nothing
  pub acted_at_once : {p : Progress} {new : ExecutionState} → p ≡ progress_of (effect old.replies) → new ≡ moves old (effect old.replies) → IsActed replies effect old from p new from
  acted_at_once same moved =
      acted_by old.replies (effect old.replies) refl begins same (subst (λ s. StandsAt old.replies old (effect old.replies) s) (sym moved) (stands_moved old (effect old.replies)))

  -- ---- one access

  module _ {program : Program} {ask : Ask} (first_is : effect [] ≡ asked_first program ask) where
    -- it has no reply
    held_by : {mid : ExecutionState} {to : S} (answer : Option ℕ) → answer ≡ None → IsReplied replies program ask old from answer mid to → IsActed replies effect old from progress.Held mid to
    held_by _ is (had_before reply was) = absurd (cc (is))
    held_by _ is (replied reply next none passed served) = absurd (cc (is))
    held_by _ is (unmade next none passed refused) =
        let asked : effect old.replies ≡ asks ask = ap effect (none_had old.replies none) ∙ first_is ∙ asked_passed program ask passed in
        acted_by old.replies (asks ask) asked (none_made old.replies from next ask begins asked refused) refl refl
    held_by _ is (barred stop none stopped) =
        acted_by old.replies (stops stop) (ap effect (none_had old.replies none) ∙ first_is ∙ asked_stopped program ask stop stopped) begins refl refl

    pub acted_held : {answer : Option ℕ} {mid : ExecutionState} {to : S} → IsReplied replies program ask old from answer mid to → answer ≡ None → IsActed replies effect old from progress.Held mid to
    acted_held {answer} came is = held_by answer is came

    -- it has one
    one_by : {mid : ExecutionState} {to : S} (reply : ℕ) (answer : Option ℕ) → answer ≡ Some reply → IsReplied replies program ask old from answer mid to → HasOne replies effect old from reply mid to
    one_by reply _ is (had_before first was) =
        let first_reply : slice_get old.replies 0 ≡ Some reply = was ∙ is in
        record {
          had = old.replies;
          rest = drop 1 old.replies;
          same = refl;
          had_is = first_had old.replies reply first_reply;
          had_with = with_first reply old.replies first_reply;
          given = begins;
        }
    one_by reply _ is (replied given next none passed served) =
        let empty : old.replies ≡ [] = none_had old.replies none in
        record {
          had = reply ∷ [];
          rest = [];
          same = refl;
          had_is = refl;
          had_with = ap (with_reply reply) (sym empty);
          given = subst (λ hs. IsGiven replies effect old.replies from hs next) (ap (λ (hs : List ℕ). hs ++ reply ∷ []) empty)
              (one_more old.replies from next ask reply begins (ap effect empty ∙ first_is ∙ asked_passed program ask passed) (subst (λ r. replies from ask r next) is served));
        }
    one_by reply _ is (unmade next none passed refused) = absurd (cc (is))
    one_by reply _ is (barred stop none stopped) = absurd (cc (is))

    module _ {answer : Option ℕ} {mid : ExecutionState} {to : S} (came : IsReplied replies program ask old from answer mid to) (reply : ℕ) (got : answer ≡ Some reply) where
      pub acted_by_one : {after new : ExecutionState} {p last : Progress} (e : State → Effect) → ((rest : List ℕ) → effect (reply ∷ rest) ≡ e old.state) → p ≡ progress_of (e mid.state) → after ≡ moves mid (e mid.state)
          → last ≡ p → (p ≡ progress.Complete → new ≡ after) → (p ≡ progress.Held → new ≡ record after { replies = with_reply reply after.replies })
          → IsActed replies effect old from last new to
      acted_by_one {after} {new} {p} e is came_to moved last_is complete held =
          let one = one_by reply answer got came in
          let same : p ≡ progress_of (e old.state) = came_to ∙ ap (λ (s : ExecutionState). progress_of (e s.state)) one.same in
          acted_by one.had (e old.state) (ap effect one.had_is ∙ is one.rest) one.given (last_is ∙ same)
          (stands_after old after new reply one.had p (e old.state) one.had_with same (moved ∙ ap (λ (s : ExecutionState). moves s (e s.state)) one.same) complete held)

      -- it is complete with any
      pub acted_done : {new : ExecutionState} {p : Progress} (done : State → State) → ((rest : List ℕ) → effect (reply ∷ rest) ≡ completes (done old.state)) → p ≡ progress.Complete
          → new ≡ record mid { state = done mid.state } → IsActed replies effect old from p new to
      acted_done done is same moved = acted_by_one (λ s. completes (done s)) is same moved refl (λ e. refl) (λ e. absurd (cc (e, same)))

-- ---- the same effect, said otherwise

module _ {S : Type 0} {replies : S → Ask → Option ℕ → S → Type 0} {effect : List ℕ → Effect} (other : List ℕ → Effect) (same : (all : List ℕ) → other all ≡ effect all) where
  pub given_same : {first : List ℕ} {from : S} {had : List ℕ} {to : S} → IsGiven replies effect first from had to → IsGiven replies other first from had to
  given_same begins = begins
  given_same (one_more had at next ask reply given asked served) = one_more had at next ask reply (given_same given) (same had ∙ asked) served
  given_same (none_made had at next ask given asked served) = none_made had at next ask (given_same given) (same had ∙ asked) served

  pub acted_same : {old new : ExecutionState} {from to : S} {p : Progress} → IsActed replies effect old from p new to → IsActed replies other old from p new to
  acted_same {old} {new} acted = record {
    had = acted.had;
    given = given_same acted.given;
    came = acted.came ∙ ap progress_of (sym (same acted.had));
    stands = subst (λ e. StandsAt acted.had old e new) (sym (same acted.had)) acted.stands;
  }

-- ---- over nobody

unanswered : {S : Type 0} {effect : List ℕ → Effect} {first : List ℕ} {from : S} {had : List ℕ} {to : S} → IsGiven IsSilent effect first from had to → had ≡ first
unanswered begins = refl
unanswered (one_more had at next ask reply given asked served) = absurd served
unanswered (none_made had at next ask given asked served) = unanswered given

settled_by : (old new : ExecutionState) (p : Progress) (effect : Effect) → p ≡ progress_of effect → StandsAt old.replies old effect new
    → settled p new ≡ settled p (moves old effect)
settled_by old new p (asks ask) same stands = ap (settled p) stands
settled_by old new p (calls call) same stands = ap (settled p) stands
settled_by old new p (completes state) same stands =
    ap (λ q. settled q new) same ∙ ap resting stands.0 ∙ ap (λ q. settled q (record old { state = state })) (sym same)
settled_by old new p (stops stop) same stands = ap (settled p) stands

wanted_by : (old new : ExecutionState) (p : Progress) (effect : Effect) → p ≡ progress_of effect → StandsAt old.replies old effect new
    → wanted_at p new.stage ≡ wanted_at p (moves old effect).stage
wanted_by old new p (asks ask) same stands = ap (λ (s : ExecutionState). wanted_at p s.stage) stands
wanted_by old new p (calls call) same stands = ap (λ (s : ExecutionState). wanted_at p s.stage) stands
wanted_by old new p (completes state) same stands = ap (λ q. wanted_at q new.stage) same ∙ ap (λ q. wanted_at q (moves old (completes state)).stage) (sym same)
wanted_by old new p (stops stop) same stands = ap (λ (s : ExecutionState). wanted_at p s.stage) stands

-- what an instruction does with the replies that it has had
pub record ActsAlone (effect : Effect) (old : ExecutionState) (p : Progress) (new : ExecutionState) : Type 0 where
  pub came : p ≡ progress_of effect
  pub stands : settled p new ≡ settled p (moves old effect)
  pub wants : wanted_at p new.stage ≡ wanted_at p (moves old effect).stage

pub acted_alone : {S : Type 0} {old new : ExecutionState} {from to : S} {p : Progress} (effect : List ℕ → Effect) → IsActed IsSilent effect old from p new to → ActsAlone (effect old.replies) old p new
acted_alone {old = old} {new = new} {p = p} effect acted =
    let had_is : acted.had ≡ old.replies = unanswered acted.given in
    let same : p ≡ progress_of (effect old.replies) = acted.came ∙ ap (λ h. progress_of (effect h)) had_is in
    let stands : StandsAt old.replies old (effect old.replies) new = subst (λ h. StandsAt h old (effect h) new) had_is acted.stands in
    record { came = same; stands = settled_by old new p (effect old.replies) same stands; wants = wanted_by old new p (effect old.replies) same stands }
