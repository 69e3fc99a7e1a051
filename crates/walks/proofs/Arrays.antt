-- The steps of `Walk.antt` on a `&mut` to an array: it is lent again for a call, comes back, and is passed on. What it refers to is any type R.
-- The idea: each is the logic's own rule for a `&mut`, with the rows and the types filled in.
use mathlib.Core.Path.{◌≡◌}
use mathlib.Core.List.{List, [], ◌∷◌}
use Prim.Native.Nat.{ℕ}
use mir.Syntax.{Ty, Lifetime, ty_ref, erased, mut, deref, assign, place, addr_of}
use prog.Wp.{spot_of}
use contract.Lifetimes.{Within}
use denote.RattleType.{RattleType}
use denote.Memory.{pointee}
use denote.Ref.{MutBor}
use borrow.Table.Row.{Entry, Cx, Life, IsTok, get_row, get_life, set_life, out, rd, dead, off}
use borrow.Table.Rows.{mref, mref_owed, mleft}
use borrow.Table.Reads.{ptr_valᵐ, reads_mref}
use borrow.Table.Typed.{ent₁, ent₂}
use borrow.Rule.Reborrow.{Relent, Back, Φmref_relend, Φback_mref, t_mref_relend, g_Back_mref}
use borrow.Fn.Kinds.{ParamKind, p_mut}
use Rattle.walks.proofs.Walk.{Site, One, Free, Sees, Room, Same, Args}

-- the type of a `&'ℓ mut R`
abbrev pub to : RattleType → Lifetime → Ty
to R ℓ = ty_ref ℓ mut (pointee R.written)

module _ {w : Site} where
  -- `d = &mut *m`, at the new lifetime β
  abbrev pub lends_ref : {Γ : Cx} (R : RattleType) (nm nd α β : ℕ) (ℓ : Lifetime) {l : Life} {h : (ent₁ Γ nm nd).1.Mod → MutBor R.Denot} → Same w (ent₁ Γ nm nd).1 (mref R (to R ℓ) α) h → Room w (ent₂ Γ nm nd).1 (to R erased) → get_life α Γ.slots ≡ l → IsTok l
      → (spot_of w.𝓤 w.𝓛.H w.E (ent₁ Γ nm nd).0).0 ≡ to R ℓ → (spot_of w.𝓤 w.𝓛.H w.E (ent₂ Γ nm nd).0).0 ≡ to R erased
      → One w Γ (assign (place (ent₂ Γ nm nd).0 []) (addr_of (place (ent₁ Γ nm nd).0 (deref (pointee R.written) ∷ [])))) (Relent Γ nm nd α β R (to R ℓ) (to R erased) l (set_life α off Γ.slots))
  lends_ref {Γ} R nm nd α β ℓ {l} {h} sm tr el tk em ed = record {
    φ = Φmref_relend Γ nm nd α β R (to R ℓ) (to R erased) l (set_life α off Γ.slots) h;
    is = t_mref_relend w.𝓛 w.E w.𝓣 Γ nm nd α β R (pointee R.written) (to R ℓ) (to R erased) l h sm.go tr.go el tk em ed (λ b o. tt);
  }

  -- m is back, once β has ended
  abbrev pub backs_ref : {Γ : Cx} (R : RattleType) (nd nm α β : ℕ) (ℓ : Lifetime) (l : Life) {hd : (ent₁ Γ nd nm).1.Mod → MutBor R.Denot} {hm : (ent₂ Γ nd nm).1.Mod → MutBor R.Denot × ℕ} → Same w (ent₁ Γ nd nm).1 (mleft R (to R erased)) hd → Same w (ent₂ Γ nd nm).1 (mref_owed R (to R ℓ) α β l) hm
      → get_life β Γ.slots ≡ dead → get_life α (set_life β dead (set_life β off Γ.slots)) ≡ off → Free w Γ (Back Γ nd nm α R (to R ℓ) (to R erased) (set_life α l (set_life β dead (set_life β off Γ.slots))))
  backs_ref {Γ} R nd nm α β ℓ l {hd} {hm} sd sm eb ea = record {
    φ = Φback_mref Γ nd nm α R (to R ℓ) (to R erased) (set_life α l (set_life β dead (set_life β off Γ.slots))) hd hm;
    is = g_Back_mref w.𝓛 w.E Γ nd nm α β R (to R ℓ) (to R erased) l hd hm sd.go sm.go eb ea;
  }

  abbrev pub ref_all : (R : RattleType) (ℓ : Lifetime) (α : ℕ) → Sees w (mref R (to R ℓ) α) (to R ℓ) ptr_valᵐ
  ref_all R ℓ α = record { go = reads_mref w.𝓛 R (to R ℓ) α }

  -- an argument: a `&mut R` that was lent again
  module _ {n : ℕ} {βs : List ℕ} where
    abbrev pub ref_arg : {ps : List (ParamKind n)} {L : List Entry} (R : RattleType) (j : ℕ) (ok : Within n j) (pos : ℕ) {h : (get_row pos L).1.Mod → MutBor R.Denot} → Same w (get_row pos L).1 (mref R (to R erased) (rd 0 j βs)) h → Sees w (get_row pos L).1 (to R erased) (λ x. ptr_valᵐ (h x))
        → (spot_of w.𝓤 w.𝓛.H w.E (get_row pos L).0).0 ≡ to R erased → Args w n βs ps (out pos L) → Args w n βs (p_mut R j ok ∷ ps) L
    ref_arg R j ok pos {h} sm se e r = record { ar = (record { pos = pos; ty = to R erased; ref = h }, r.ar); has = (sm.go, se.go, e, r.has) }
