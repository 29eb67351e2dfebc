-- One turn: the threads after an access of one, and after one has stopped.
use Rattle.std.proofs.Common.{◌≡◌, ◌≢◌, ℕ, ◌<◌, true, List, [], ◌∷◌, ◌++◌, All, map, set as put, length, Option, Some, None, slice_index_or, refl, sym, ◌∙◌, ap, subst, inl, inr, arith, length-set, get_or-set_same, get_or-set_other, zero-add}
use Rattle.std.specs.Option.{is_none}
use Rattle.std.specs.List.{range_with_len}
use Rattle.std.proofs.lemmas.Bool.{cases_eq}
use Rattle.std.proofs.lemmas.List.{length_push, length-replicate}
use Rattle.std.proofs.lemmas.List.Elements.{All-nil, All-push}
use Rattle.std.proofs.lemmas.List.FromFn.{get_or-map-range_with_len, length-map-range_with_len}
use Rattle.llsc_base.specs.Images.{Program}
use Rattle.llsc_base.specs.Sizes.{Numbers}
use Rattle.history.specs.ArmLegal.{IsArmLegal, MayAccess}
use Rattle.history.specs.Monitor.{Monitor, IsAsLarge, accessed, at_rest_by}
use Rattle.history.specs.declared.entry.Access.{Access}
use Rattle.history.proofs.Appends.{IsArmLegal-push}
use Rattle.llsc_base.specs.declared.outside.Ask.{Ask}
use Rattle.llsc_base.specs.declared.outside.Stop.{Stop}
use Rattle.guest_calls.specs.Run.{Pair, ReachesBy, Asks, Ends}
use Rattle.history.specs.Accesses.{entry_of, history_of}
use Rattle.guest_calls.specs.Pairs.{pairs_in, reply_of}
use Rattle.guest_thread.specs.ThreadState.{IsReadyIn, IsWaitingIn, ThreadOf}
use Rattle.guest_thread.specs.Start.{thread_start}
use Rattle.guest_thread.specs.Under.{Awaits, HasCome}
use Rattle.run_record.specs.Limits.{IsAccess, most_accesses}
use Rattle.guest_machine.specs.Turns.{drawn, turn_of, without, Takes, begins, makes, stops, IsTooLong}
use Rattle.guest_thread.specs.Accesses.{access_by, monitor_of}
use Rattle.guest_machine.specs.inner.Seats.{SeatOf, first_seat, is_one_of, StandsBy, IsSeated, HaveTurned}
use Rattle.guest_thread.proofs.Pushed.{history_push, monitor_push}
use Rattle.guest_machine.proofs.Pushed.{own_push, other_push}
use Rattle.guest_machine.proofs.Seated.{turn_live, turn_below, taken_out, left_in, still_below, in_range, range_below}
use Rattle.guest_core.specs.Machine.{InstructionSet}

-- whose turn it is
pub turn_is : (x drawn_x t : ℕ) (live seen : List ℕ) → drawn_x ≡ drawn x → seen ≡ live → turn_of drawn_x seen ≡ Some t → turn_of (drawn x) live ≡ Some t
turn_is x drawn_x t live seen drawn_is seen_is turn = ap (λ l. turn_of (drawn x) l) (sym seen_is) ∙ ap (λ y. turn_of y seen) (sym drawn_is) ∙ turn

-- the seats with that of one thread changed, where the others are as they were
changed : {X : Type 0} (P : ℕ → X → Type 0) (n : ℕ) (seats : List X) (t : ℕ) (new : X) → length seats ≡ n → t < n → P t new
    → ((u : ℕ) (other : X) → u < n → u ≢ t → P u (slice_index_or seats u other))
    → (u : ℕ) (other : X) → u < n → P u (slice_index_or (put seats t new) u other)
changed P n seats t new many known here others u other below = elim (cases_eq u t) [
  | inl same ↦
      let inside : t < length seats = omega (arith, many, known) in
      subst (λ k. P k (slice_index_or (put seats t new) k other)) (sym same)
      (subst (P t) (sym (get_or-set_same seats t new other inside)) here)
  | inr differs ↦ subst (P u) (sym (get_or-set_other seats t u new other differs)) (others u other below differs)
]

module _ {I S : Type 0} (set : InstructionSet I S) where
  -- ---- the thread whose turn it is

  -- it has not stopped, has come so far, and awaits no reply
  pub record IsChosen (program : Program) (size : Numbers) (budget : ℕ) (accesses : List Access) (live : List ℕ) (t : ℕ) (seat : SeatOf I S) : Type 0 where
    pub known : t < size.threads
    pub one : is_one_of live t ≡ true
    pub none : seat.stop ≡ None
    pub come : HasCome set program budget (thread_start set program size size.threads t) (pairs_in t accesses) seat.guest
    pub ready : IsReadyIn (length program.bytes) budget seat.guest

  none_is : (stop : Option Stop) → is_none stop ≡ true → stop ≡ None
  none_is None is = refl
  none_is (Some stop) is = cc

  pub chosen : (program : Program) (size : Numbers) (seed budget x : ℕ) (live : List ℕ) (seats : List (SeatOf I S)) (memory : Monitor) (accesses : List Access) (t : ℕ) (seat : SeatOf I S)
      → HaveTurned set program size seed budget x live seats memory accesses
      → turn_of (drawn x) live ≡ Some t → seat ≡ slice_index_or seats t seat
      → IsChosen program size budget accesses live t seat
  chosen program size seed budget x live seats memory accesses t seat turned turn read =
      let known : t < size.threads = turn_below size.threads (drawn x) t live turned.below turn in
      let one : is_one_of live t ≡ true = turn_live (drawn x) t live turn in
      let seated : IsSeated set program size budget accesses live t seat =
      subst (IsSeated set program size budget accesses live t) (sym read) (turned.seats t seat known) in
      let none : seat.stop ≡ None = none_is seat.stop (sym seated.tells ∙ one) in
      let stands : StandsBy set program budget (thread_start set program size size.threads t) (pairs_in t accesses) seat.guest None =
      subst (StandsBy set program budget (thread_start set program size size.threads t) (pairs_in t accesses) seat.guest) none seated.stands in
      record { known = known; one = one; none = none; come = stands.0; ready = stands.1 }

  -- ---- after an access

  -- a thread that was replied to is seated
  own_seated : (program : Program) (size : Numbers) (budget : ℕ) (live : List ℕ) (memory : Monitor) (accesses : List Access) (t : ℕ) (ask : Ask) (seat : SeatOf I S) (replied : ThreadOf I S)
      → IsChosen program size budget accesses live t seat
      → HasCome set program budget (thread_start set program size size.threads t) (pairs_in t accesses ++ (ask, reply_of (access_by memory t ask)) ∷ []) replied
      → IsReadyIn (length program.bytes) budget replied
      → IsSeated set program size budget (accesses ++ access_by memory t ask ∷ []) live t (record { guest = replied; stop = seat.stop })
  own_seated program size budget live memory accesses t ask seat replied is come ready =
      let pairs : List Pair = pairs_in t (accesses ++ access_by memory t ask ∷ []) in
      let there : HasCome set program budget (thread_start set program size size.threads t) pairs replied =
      subst (λ p. HasCome set program budget (thread_start set program size size.threads t) p replied) (sym (own_push t accesses memory ask)) come in
      record {
        tells = is.one ∙ sym (ap is_none is.none);
        stands = subst (StandsBy set program budget (thread_start set program size size.threads t) pairs replied) (sym is.none) (there, ready);
      }

  -- one that another thread's access leaves where it is is seated
  other_seated : (program : Program) (size : Numbers) (budget : ℕ) (live : List ℕ) (memory : Monitor) (accesses : List Access) (t other : ℕ) (ask : Ask) (seat : SeatOf I S)
      → other ≢ t → IsSeated set program size budget accesses live other seat
      → IsSeated set program size budget (accesses ++ access_by memory t ask ∷ []) live other seat
  other_seated program size budget live memory accesses t other ask seat differs seated = record {
    tells = seated.tells;
    stands = subst (λ p. StandsBy set program budget (thread_start set program size size.threads other) p seat.guest seat.stop)
        (sym (other_push other t accesses memory ask differs)) seated.stands;
  }

  pub after_access : (program : Program) (size : Numbers) (seed budget x : ℕ) (live : List ℕ) (seats : List (SeatOf I S)) (memory : Monitor) (accesses : List Access)
      (t : ℕ) (ask : Ask) (seat : SeatOf I S) (asked replied : ThreadOf I S)
      → HaveTurned set program size seed budget x live seats memory accesses
      → turn_of (drawn x) live ≡ Some t → seat ≡ slice_index_or seats t seat
      → Asks set program budget (thread_start set program size size.threads t) (pairs_in t accesses) ask
      → Awaits set program budget (thread_start set program size size.threads t) (pairs_in t accesses) ask asked
      → IsWaitingIn (length program.bytes) budget asked
      → (length accesses ≡ most_accesses → ⊥)
      → IsAsLarge memory (accessed memory (entry_of (access_by memory t ask)))
      → MayAccess memory (entry_of (access_by memory t ask))
      → IsAccess (length memory.marks) (access_by memory t ask)
      → (IsWaitingIn (length program.bytes) budget asked → IsReadyIn (length program.bytes) budget replied)
      → (Awaits set program budget (thread_start set program size size.threads t) (pairs_in t accesses) ask asked
      → HasCome set program budget (thread_start set program size size.threads t) (pairs_in t accesses ++ (ask, reply_of (access_by memory t ask)) ∷ []) replied)
      → HaveTurned set program size seed budget (drawn x) live (put seats t (record { guest = replied; stop = seat.stop }))
      (accessed memory (entry_of (access_by memory t ask))) (accesses ++ access_by memory t ask ∷ [])
  after_access program size seed budget x live seats memory accesses t ask seat asked replied turned turn read asks awaits waits room large may sound gives comes =
      let access : Access = access_by memory t ask in
      let is : IsChosen program size budget accesses live t seat = chosen program size seed budget x live seats memory accesses t seat turned turn read in
      record {
        takes = subst (λ m. Takes set program size seed budget (drawn x) live (accesses ++ access_by m t ask ∷ [])) (sym turned.memory)
            (makes x live accesses t ask turned.takes turn asks);
        few = omega (arith, length_push accesses access, turned.few, room);
        below = turned.below;
        many = length-set seats t (record { guest = replied; stop = seat.stop }) ∙ turned.many;
        seats = changed (IsSeated set program size budget (accesses ++ access ∷ []) live) size.threads seats t (record { guest = replied; stop = seat.stop }) turned.many is.known
            (own_seated program size budget live memory accesses t ask seat replied is (comes awaits) (gives waits))
            (λ u other below differs. other_seated program size budget live memory accesses t u ask (slice_index_or seats u other) differs (turned.seats u other below));
        memory = ap (λ m. accessed m (entry_of access)) turned.memory ∙ sym (monitor_push program size accesses access);
        bytes = large.bytes ∙ turned.bytes;
        marks = large.threads ∙ turned.marks;
        legal = subst (IsArmLegal (at_rest_by size.granule program.bytes size.threads)) (sym (history_push accesses access))
            (IsArmLegal-push (at_rest_by size.granule program.bytes size.threads) (history_of accesses) (entry_of access) turned.legal
            (subst (λ m. MayAccess m (entry_of access)) turned.memory may));
        sound = All-push (IsAccess size.threads) accesses access turned.sound (subst (λ n. IsAccess n access) turned.marks sound);
      }

  -- where the next access is one too many, the run is too long
  pub too_long : (program : Program) (size : Numbers) (seed budget x : ℕ) (live : List ℕ) (seats : List (SeatOf I S)) (memory : Monitor) (accesses : List Access) (t : ℕ) (ask : Ask)
      → HaveTurned set program size seed budget x live seats memory accesses
      → turn_of (drawn x) live ≡ Some t
      → Asks set program budget (thread_start set program size size.threads t) (pairs_in t accesses) ask
      → length accesses ≡ most_accesses → IsTooLong set program size seed budget
  too_long program size seed budget x live seats memory accesses t ask turned turn asks full =
      let access : Access = access_by (monitor_of program size accesses) t ask in (
        drawn x,
        live,
        accesses ++ access ∷ [],
        (makes x live accesses t ask turned.takes turn asks, omega (arith, length_push accesses access, full)),
      )

  -- ---- the same by what is known of each part

  pub turned_as : (program : Program) (size : Numbers) (seed budget x y : ℕ) (live left : List ℕ) (seats : List (SeatOf I S)) (memory monitor : Monitor) (accesses made : List Access)
      → y ≡ x → left ≡ live → monitor ≡ memory → made ≡ accesses
      → HaveTurned set program size seed budget x live seats memory accesses → HaveTurned set program size seed budget y left seats monitor made
  turned_as program size seed budget x y live left seats memory monitor accesses made same_x same_live same_memory same_accesses turned =
      subst (λ n. HaveTurned set program size seed budget n left seats monitor made) (sym same_x)
      (subst (λ l. HaveTurned set program size seed budget x l seats monitor made) (sym same_live)
      (subst (λ m. HaveTurned set program size seed budget x live seats m made) (sym same_memory)
      (subst (λ a. HaveTurned set program size seed budget x live seats memory a) (sym same_accesses) turned)))

  pub access_made : (program : Program) (size : Numbers) (seed budget x y : ℕ) (live : List ℕ) (seats : List (SeatOf I S)) (memory monitor : Monitor) (accesses made : List Access)
      (t : ℕ) (ask : Ask) (seat : SeatOf I S) (asked replied : ThreadOf I S) (access : Access) (reply : ℕ)
      → HaveTurned set program size seed budget x live seats memory accesses
      → turn_of (drawn x) live ≡ Some t → seat ≡ slice_index_or seats t seat
      → Asks set program budget (thread_start set program size size.threads t) (pairs_in t accesses) ask
      → Awaits set program budget (thread_start set program size size.threads t) (pairs_in t accesses) ask asked
      → IsWaitingIn (length program.bytes) budget asked
      → (length accesses ≡ most_accesses → ⊥)
      → y ≡ drawn x → access ≡ access_by memory t ask → monitor ≡ accessed memory (entry_of access) → made ≡ accesses ++ access ∷ [] → reply ≡ reply_of access
      → IsAsLarge memory monitor → MayAccess memory (entry_of access) → IsAccess (length memory.marks) access
      → (IsWaitingIn (length program.bytes) budget asked → IsReadyIn (length program.bytes) budget replied)
      → (Awaits set program budget (thread_start set program size size.threads t) (pairs_in t accesses) ask asked
      → HasCome set program budget (thread_start set program size size.threads t) (pairs_in t accesses ++ (ask, reply) ∷ []) replied)
      → HaveTurned set program size seed budget y live (put seats t (record { guest = replied; stop = seat.stop })) monitor made
  access_made program size seed budget x y live seats memory monitor accesses made t ask seat asked replied access reply turned turn read asks awaits waits room same_x is monitor_is made_is reply_is large may sound gives comes =
      let monitor_by : monitor ≡ accessed memory (entry_of (access_by memory t ask)) = monitor_is ∙ ap (λ a. accessed memory (entry_of a)) is in
      turned_as program size seed budget (drawn x) y live live (put seats t (record { guest = replied; stop = seat.stop }))
      (accessed memory (entry_of (access_by memory t ask))) monitor (accesses ++ access_by memory t ask ∷ []) made
      same_x refl monitor_by (made_is ∙ ap (λ a. accesses ++ a ∷ []) is)
      (after_access program size seed budget x live seats memory accesses t ask seat asked replied turned turn read asks awaits waits room
      (subst (IsAsLarge memory) monitor_by large)
      (subst (λ a. MayAccess memory (entry_of a)) is may)
      (subst (IsAccess (length memory.marks)) is sound)
      gives
      (λ here. subst (λ r. HasCome set program budget (thread_start set program size size.threads t) (pairs_in t accesses ++ (ask, r) ∷ []) replied) (reply_is ∙ ap reply_of is) (comes here)))

  -- ---- after a stop

  pub after_stop : (program : Program) (size : Numbers) (seed budget x : ℕ) (live : List ℕ) (seats : List (SeatOf I S)) (memory : Monitor) (accesses : List Access)
      (t : ℕ) (stop : Stop) (seat : SeatOf I S) (ended : ThreadOf I S)
      → HaveTurned set program size seed budget x live seats memory accesses
      → turn_of (drawn x) live ≡ Some t → seat ≡ slice_index_or seats t seat
      → Ends set program budget (thread_start set program size size.threads t) (pairs_in t accesses) stop ended.steps ended.output
      → HaveTurned set program size seed budget (drawn x) (without t live) (put seats t (record { guest = ended; stop = Some stop })) memory accesses
  after_stop program size seed budget x live seats memory accesses t stop seat ended turned turn read ends =
      let is : IsChosen program size budget accesses live t seat = chosen program size seed budget x live seats memory accesses t seat turned turn read in
      record {
        takes = stops x live accesses t stop ended.steps ended.output turned.takes turn ends;
        few = turned.few;
        below = still_below size.threads t live turned.below;
        many = length-set seats t (record { guest = ended; stop = Some stop }) ∙ turned.many;
        seats = changed (IsSeated set program size budget accesses (without t live)) size.threads seats t (record { guest = ended; stop = Some stop }) turned.many is.known
            (record { tells = taken_out t live; stands = ends })
            (λ u other below differs.
            let seated : IsSeated set program size budget accesses live u (slice_index_or seats u other) = turned.seats u other below in
            record { tells = left_in u t live differs ∙ seated.tells; stands = seated.stands });
        memory = turned.memory;
        bytes = turned.bytes;
        marks = turned.marks;
        legal = turned.legal;
        sound = turned.sound;
      }

  -- ---- at the start

  pub at_start : (program : Program) (size : Numbers) (seed budget : ℕ) (live : List ℕ) (seats : List (SeatOf I S)) (memory : Monitor) (accesses : List Access)
      → live ≡ range_with_len 0 size.threads → seats ≡ map (first_seat set program size) (range_with_len 0 size.threads)
      → memory ≡ at_rest_by size.granule program.bytes size.threads → accesses ≡ []
      → HaveTurned set program size seed budget seed live seats memory accesses
  at_start program size seed budget live seats memory accesses live_is seats_are memory_is none =
      subst (λ s. HaveTurned set program size seed budget seed live s memory accesses) (sym seats_are)
      (turned_as program size seed budget seed seed (range_with_len 0 size.threads) live (map (first_seat set program size) (range_with_len 0 size.threads))
      (at_rest_by size.granule program.bytes size.threads) memory [] accesses refl live_is memory_is none (record {
        takes = begins;
        few = omega arith;
        below = subst (λ n. All (λ t. t < n) (range_with_len 0 size.threads)) (zero-add size.threads) (range_below size.threads 0);
        many = length-map-range_with_len (first_seat set program size) 0 size.threads;
        seats = first_seated;
        memory = refl;
        bytes = refl;
        marks = length-replicate size.threads None;
        legal = tt;
        sound = All-nil (IsAccess size.threads);
      }))
    where
      seated : (t : ℕ) → t < size.threads → IsSeated set program size budget [] (range_with_len 0 size.threads) t (first_seat set program size t)
      seated t known = record { tells = in_range size.threads t 0 (omega arith) (omega (arith, known)); stands = (ReachesBy.begins, (tt, omega arith)) }

      first_seated : (t : ℕ) (other : SeatOf I S) → t < size.threads
          → IsSeated set program size budget [] (range_with_len 0 size.threads) t (slice_index_or (map (first_seat set program size) (range_with_len 0 size.threads)) t other)
      first_seated t other known =
          subst (IsSeated set program size budget [] (range_with_len 0 size.threads) t)
          (sym (get_or-map-range_with_len (first_seat set program size) 0 size.threads t t other known (omega arith))) (seated t known)
