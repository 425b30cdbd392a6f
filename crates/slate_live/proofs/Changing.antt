-- What holds of the objects of a world after one of them changed.
use Rattle.std.proofs.Common.{◌≡◌, ◌≢◌, inl, inr, ℕ, List, set, Some, refl, sym, subst, ap, ◌∙◌}
use Rattle.std.specs.List.{slice_get}
use Rattle.std.proofs.lemmas.Bool.{cases_eq}
use Rattle.slate_model.specs.Follower.{Follower}
use Rattle.slate_model.specs.Handle.{Handle}
use Rattle.slate_model.specs.Object.{Object, Handle as AHandle, Follower as AFollower}
use Rattle.slate_live.specs.Represents.{IsFollowerAt, IsHandleAt}
use Rattle.slate_live.proofs.Places.{get-set_other, get-set_same}

-- one handle stands at a place
pub one_handle : (live : List Object) (n : ℕ) (a b : Handle) → IsHandleAt live n a → IsHandleAt live n b → a ≡ b
one_handle live n a b h k = cc

-- where each handle is valid, and the one at a place changes into a valid one, each is valid
pub valid-set : (P : Handle → Type 0) (live : List Object) (n : ℕ) (old new : Handle) → IsHandleAt live n old → P new → ((m : ℕ) (h : Handle) → m ≢ n → IsHandleAt live m h → P h) → (m : ℕ) (h : Handle) → IsHandleAt (set live n (AHandle new)) m h → P h
valid-set P live n old new at p others m h is =
    elim (cases_eq m n) [
      | inl same ↦
          let there : IsHandleAt (set live n (AHandle new)) m new = subst (λ k. IsHandleAt (set live n (AHandle new)) k new) (sym same) (get-set_same live n (AHandle new) (AHandle old) at) in
          subst P (one_handle (set live n (AHandle new)) m new h there is) p
      | inr other ↦ others m h other (sym (get-set_other live n m (AHandle new) other) ∙ is)
    ]

-- each handle stood there before, with its epoch, where one changed and kept it
stood : (live : List Object) (n : ℕ) (old new : Handle) → IsHandleAt live n old → new.epoch ≡ old.epoch → (m : ℕ) (h : Handle) → IsHandleAt (set live n (AHandle new)) m h → (o : Handle) × IsHandleAt live m o × (o.epoch ≡ h.epoch)
stood live n old new at same m h is =
    elim (cases_eq m n) [
      | inl place ↦
          let there : IsHandleAt (set live n (AHandle new)) m new = subst (λ k. IsHandleAt (set live n (AHandle new)) k new) (sym place) (get-set_same live n (AHandle new) (AHandle old) at) in
          let is_new = one_handle (set live n (AHandle new)) m new h there is in
          (old, subst (λ k. IsHandleAt live k old) (sym place) at, sym same ∙ ap (λ (x : Handle). x.epoch) is_new)
      | inr other ↦ (h, sym (get-set_other live n m (AHandle new) other) ∙ is, refl)
    ]

-- handles keep distinct epochs where one changes and keeps its epoch
pub distinct-set : (live : List Object) (n : ℕ) (old new : Handle) → IsHandleAt live n old → new.epoch ≡ old.epoch → ((i j : ℕ) (a b : Handle) → IsHandleAt live i a → IsHandleAt live j b → a.epoch ≡ b.epoch → i ≡ j) → (i j : ℕ) (a b : Handle) → IsHandleAt (set live n (AHandle new)) i a → IsHandleAt (set live n (AHandle new)) j b → a.epoch ≡ b.epoch → i ≡ j
distinct-set live n old new at same distinct i j a b is_a is_b epochs =
    let x = stood live n old new at same i a is_a in
    let y = stood live n old new at same j b is_b in
    distinct i j x.0 y.0 x.1 y.1 (x.2 ∙ (epochs ∙ sym y.2))

-- what holds of each follower holds of it after a handle changed
pub followers-set-handle : (P : Follower → Type 0) (live : List Object) (n : ℕ) (old : Object) (new : Handle) → slice_get live n ≡ Some old → ((m : ℕ) (f : Follower) → IsFollowerAt live m f → P f) → (m : ℕ) (f : Follower) → IsFollowerAt (set live n (AHandle new)) m f → P f
followers-set-handle P live n old new at all m f is =
    elim (cases_eq m n) [
      | inl same ↦
          let there : slice_get (set live n (AHandle new)) m ≡ Some (AHandle new) = subst (λ k. slice_get (set live n (AHandle new)) k ≡ Some (AHandle new)) (sym same) (get-set_same live n (AHandle new) old at) in
          absurd (cc)
      | inr other ↦ all m f (sym (get-set_other live n m (AHandle new) other) ∙ is)
    ]

-- and after a follower changed into one of which it holds
pub followers-set : (P : Follower → Type 0) (live : List Object) (n : ℕ) (old : Object) (new : Follower) → slice_get live n ≡ Some old → P new → ((m : ℕ) (f : Follower) → IsFollowerAt live m f → P f) → (m : ℕ) (f : Follower) → IsFollowerAt (set live n (AFollower new)) m f → P f
followers-set P live n old new at p all m f is =
    elim (cases_eq m n) [
      | inl same ↦
          let there : slice_get (set live n (AFollower new)) m ≡ Some (AFollower new) = subst (λ k. slice_get (set live n (AFollower new)) k ≡ Some (AFollower new)) (sym same) (get-set_same live n (AFollower new) old at) in
          let is_new : new ≡ f = cc in
          subst P is_new p
      | inr other ↦ all m f (sym (get-set_other live n m (AFollower new) other) ∙ is)
    ]

-- each handle stood there before a follower changed
pub handles-set-follower : (live : List Object) (n : ℕ) (old : Object) (new : Follower) → slice_get live n ≡ Some old → (m : ℕ) (h : Handle) → IsHandleAt (set live n (AFollower new)) m h → IsHandleAt live m h
handles-set-follower live n old new at m h is =
    elim (cases_eq m n) [
      | inl same ↦
          let there : slice_get (set live n (AFollower new)) m ≡ Some (AFollower new) = subst (λ k. slice_get (set live n (AFollower new)) k ≡ Some (AFollower new)) (sym same) (get-set_same live n (AFollower new) old at) in
          absurd (cc)
      | inr other ↦ sym (get-set_other live n m (AFollower new) other) ∙ is
    ]
