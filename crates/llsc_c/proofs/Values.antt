-- The machine value of a `Held`: its pointer. Assumes `Logic`.
use Rattle.std.proofs.Common.{◌≡◌, List, [], ◌∷◌, ◌++◌, refl, subst}
use Rattle.std.specs.Prelude.{Option, Some, None}
use seplogic.Ra.Ura.{Ura}
use mir.Val.{Val, vstruct, vcons, vnil, of_list}
use types.Kit.{Item, Goal, Seq, Step, step, ‵, ◌$◌, drop, fsplit, fjoin, fpick, fpack, feq_i, feq_l}
use types.Logic.{Logic}
use denote.RattleType.{Valss}
use denote.Builtin.{RawPtr}
use denote.RawPtr.{Ptr, ptr_val}
use denote.Steps.{nothing}
use denote.Struct.Struct.{within}
use denote.Struct.Owning.{shape}
use Rattle.memory_handle.specs.declared.handles.Handle.{Handle}
use Rattle.llsc_c.specs.inner.Holds.{holds}
use Rattle.llsc_c.specs.declared.held.Held.{Held}
use Rattle.llsc_c.specs.contracts.held.Held.{the_row, the_type}

-- a struct's machine value, of its one field's
abbrev pub alone : Val → Val
alone v = vstruct (vcons v vnil)

-- the handle that isn't none
pub some_of : (o : Option Handle) → (o ≡ None → ⊥) → (x : Handle) × (o ≡ Some x)
some_of None t = absurd (t refl)
some_of (Some x) t = (x, refl)

module _ {M : Type 1} {𝓤 : Ura M} {𝓛 : Logic 𝓤} {K : Type 0} {Γ : List (Item 𝓤)} {G : Goal 𝓤 𝓛.H} where
  -- a `Held`'s value is its pointer's, and it owns what is behind that
  pub held_out : K → (d : Held) (vs : List Val)
      → (vs ≡ alone (ptr_val d.at) ∷ [] → Seq K 𝓛 (‵ (holds d.at d.handle) ∷ Γ) G)
      → Seq K 𝓛 (‵ (the_row.own_val d vs) ∷ Γ) G
  held_out t d vs k =
      fsplit t $ fpick t (λ vss. fsplit t $ feq_l t (λ ev. fsplit t $ feq_l t (λ ep. drop t $
      k (subst (λ (ps : List Val). vs ≡ vstruct (of_list (ps ++ [])) ∷ []) ep ev))))

  -- the other way round
  pub held_in : K → (p : Ptr) (o : Option Handle)
      → Step K 𝓛 (‵ (the_row.own_val (record { at = p; handle = o }) (alone (ptr_val p) ∷ [])) ∷ Γ) G (‵ (holds p o) ∷ Γ) G
  held_in t p o = step (λ s. let v : Val = alone (ptr_val p) in
      nothing t $ feq_i t (List Val) (ptr_val p ∷ []) (ptr_val p ∷ []) refl $ fjoin t $ feq_i t (List Val) (v ∷ []) (v ∷ []) refl $ fjoin t $
      fpack t (Valss (RawPtr ∷ [])) (within (shape the_type) (p, tt) (v ∷ [])) (ptr_val p ∷ [], tt) $ fjoin t $ s)
