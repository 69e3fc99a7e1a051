-- Two more steps of a walk: the first elements of a slice that is lent as `&mut`, lent again for a call, `&mut s[..k]`, and s back with the rest as it was.
use mathlib.Core.Path.{◌≡◌, refl, ap}
use mathlib.Core.List.{List, [], ◌∷◌}
use Prim.Native.Nat.{ℕ}
use package.mir.Syntax.{Ty, Lifetime, mut, erased, field, deref, assign, place, addr_of}
use package.prog.Wp.{spot_of}
use package.prog.Memory.{field_of}
use denote.RattleType.{RattleType}
use denote.Memory.{lone}
use denote.Ref.{MutBor}
use denote.Slice.{slice_ty}
use borrow.Table.Row.{Cx, Life, IsTok, get_life, set_life, dead, off}
use borrow.Table.Typed.{Mo, ent₁, ent₂}
use borrow.Rule.Slice.Mut.{mslice, msleft}
use borrow.Rule.Slice.Relend.{AfterBack}
use borrow.Rule.Slice.Part.{mslice_owed_p, AfterRelendᵖ, Φsl_relendᵖ, Φback_slᵖ, t_sl_relendᵖ, g_back_slᵖ}
use Rattle.walks.proofs.Walk.{Site, One, Free, Room, Same}
use Rattle.walks.proofs.Slices.{ptr}

module _ {w : Site} where
  -- as `lends`, but of the first `kf` elements
  abbrev pub lends_first : {Γ : Cx} (R : RattleType) (nm nd α β : ℕ) (ℓ : Lifetime) (kf : Mo Γ → ℕ) {l : Life} {hm : (ent₁ Γ nm nd).1.Mod → MutBor (List R.Denot)} → Same w (ent₁ Γ nm nd).1 (mslice R (ptr R ℓ mut) α) hm → Room w (ent₂ Γ nm nd).1 (ptr R erased mut) → get_life α Γ.slots ≡ l → IsTok l
      → (spot_of w.𝓤 w.𝓛.H w.E (ent₁ Γ nm nd).0).0 ≡ slice_ty (ptr R ℓ mut) → (spot_of w.𝓤 w.𝓛.H w.E (ent₂ Γ nm nd).0).0 ≡ ptr R erased mut
      → One w Γ (assign (place (ent₂ Γ nm nd).0 []) (addr_of (place (ent₁ Γ nm nd).0 (field 0 ∷ deref (lone R.mir) ∷ [])))) (AfterRelendᵖ R Γ nm nd α β (ptr R ℓ mut) (ptr R erased mut) l)
  lends_first {Γ} R nm nd α β ℓ kf {l} {hm} sm tr el tk es ed = record {
    φ = Φsl_relendᵖ R Γ nm nd α β (ptr R ℓ mut) (ptr R erased mut) l hm kf;
    is = t_sl_relendᵖ w.𝓛 w.E R w.𝓣 Γ nm nd α β (ptr R ℓ mut) (ptr R erased mut) l 0 hm kf sm.go tr.go el tk (ap (λ (τ : Ty). field_of τ 0) es) refl ed (λ b o. tt);
  }

  -- as `backs`: what the part last held, and then the rest
  abbrev pub backs_first : {Γ : Cx} (R : RattleType) (nd nm α β : ℕ) (ℓ : Lifetime) (l : Life) {hd : (ent₁ Γ nd nm).1.Mod → MutBor (List R.Denot)} {hm : (ent₂ Γ nd nm).1.Mod → MutBor (List R.Denot) × ℕ × ℕ} → Same w (ent₁ Γ nd nm).1 (msleft R (ptr R erased mut)) hd → Same w (ent₂ Γ nd nm).1 (mslice_owed_p R (ptr R ℓ mut) α β l) hm
      → get_life β Γ.slots ≡ dead → get_life α (set_life β dead (set_life β off Γ.slots)) ≡ off → Free w Γ (AfterBack R Γ nd nm α β (ptr R ℓ mut) (ptr R erased mut) l)
  backs_first {Γ} R nd nm α β ℓ l {hd} {hm} sd sm eb ea = record {
    φ = Φback_slᵖ R Γ nd nm α β (ptr R ℓ mut) (ptr R erased mut) l hd hm;
    is = g_back_slᵖ w.𝓛 w.E R Γ nd nm α β (ptr R ℓ mut) (ptr R erased mut) l hd hm sd.go sm.go eb ea;
  }
