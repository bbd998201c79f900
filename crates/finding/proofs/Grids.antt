-- The search goes through the grid by y, then z, then x. Assumes nothing.
use mathlib.Core.Path.{◌≡◌, refl, sym, ◌∙◌, subst}
use mathlib.Core.Bool.{Bool, true, false, cond}
use mathlib.Core.Logic.{inl, inr}
use Prim.Native.Nat.{ℕ, ◌<◌, zero-le}
use native.Mathlib.Omega.{arith}
use lib.Dec.{T, eqb, eqb→eq}
use lib.Ieee.{Float}
use Rattle.std.specs.Prelude.{Option, Some, None}
use Rattle.vectors.specs.declared.Vec3.{Vec3}
use Rattle.panning.specs.Setup.{Setup}
use Rattle.finding.specs.Grid.{Spot, InGrid, Before, spot_place, across_at, across_count, up_at, up_count}
use Rattle.finding.specs.Search.{exactly, in_row, in_layer, mask_at, search}
use Rattle.finding.specs.Found.{FirstSpot, Searched}
use Rattle.finding.proofs.Walks.{exact, other}
use Rattle.finding.proofs.Firsts.{found_in, in_found, none_in, in_none, none_is_not, some_is_some}

module _ (h : Setup) (mask : ℕ) where
  -- ---- one place
  exactly_none : (p : Vec3) → exactly h mask p ≡ None → mask_at h p ≡ mask → ⊥
  exactly_none p e m = none_is_not (sym e ∙ exact h mask p m)

  exactly_some : (q p : Vec3) → exactly h mask q ≡ Some p → (q ≡ p) × (mask_at h q ≡ mask)
  exactly_some q p e = go (eqb (mask_at h q) mask) (eqb→eq (mask_at h q) mask) e
    where
      go : (b : Bool) → (T b → mask_at h q ≡ mask) → cond b (Some q) None ≡ Some p → (q ≡ p) × (mask_at h q ≡ mask)
      go true f e = (some_is_some e, f tt)
      go false f e = absurd (none_is_not e)

  -- ---- the walks at a depth, at a height, and of all
  abbrev xs : Float → Float → ℕ → Option Vec3
  xs y z i = exactly h mask (record { x = across_at i; y = y; z = z })

  abbrev zs : Float → ℕ → Option Vec3
  zs y k = in_row h mask y (across_at k)

  abbrev ys : ℕ → Option Vec3
  ys j = in_layer h mask (up_at j)

  -- no place of a row, and of a height
  row_none : (y z : Float) → in_row h mask y z ≡ None → (i : ℕ) → i < across_count → mask_at h (record { x = across_at i; y = y; z = z }) ≡ mask → ⊥
  row_none y z e i a = exactly_none (record { x = across_at i; y = y; z = z }) (none_in (xs y z) across_count 0 e i zero-le a)

  layer_none : (y : Float) → in_layer h mask y ≡ None → (k i : ℕ) → k < across_count → i < across_count
      → mask_at h (record { x = across_at i; y = y; z = across_at k }) ≡ mask → ⊥
  layer_none y e k i a b = row_none y (across_at k) (none_in (zs y) across_count 0 e k zero-le a) i b

  found : (p : Vec3) → search h mask ≡ Some p → (s : Spot) × (p ≡ spot_place s) × FirstSpot h mask s
  unfolding search
  found p e =
      let a = found_in ys up_count 0 p e in
      let b = found_in (zs (up_at a.k)) across_count 0 p a.is in
      let c = found_in (xs (up_at a.k) (across_at b.k)) across_count 0 p b.is in
      let m = exactly_some (record { x = across_at c.k; y = up_at a.k; z = across_at b.k }) p c.is in (
        record { y = a.k; z = b.k; x = c.k },
        sym m.0,
        record {
          on = record { y = a.to; z = b.to; x = c.to };
          exact = m.1;
          first = λ t g w. elim w [
            | inl i ↦ layer_none (up_at t.y) (a.before t.y zero-le i) t.z t.x g.z g.x
            | inr v ↦ elim v.1 [
              | inl i ↦ subst (λ (j : ℕ). mask_at h (spot_place (record { y = j; z = t.z; x = t.x })) ≡ mask → ⊥) (sym v.0)
                  (row_none (up_at a.k) (across_at t.z) (b.before t.z zero-le i) t.x g.x)
              | inr u ↦ subst (λ (j : ℕ). mask_at h (spot_place (record { y = j; z = t.z; x = t.x })) ≡ mask → ⊥) (sym v.0)
                  (subst (λ (k : ℕ). mask_at h (spot_place (record { y = a.k; z = k; x = t.x })) ≡ mask → ⊥) (sym u.0)
                  (exactly_none (spot_place (record { y = a.k; z = b.k; x = t.x })) (c.before t.x zero-le u.1)))
            ]
          ];
        },
      )

  first : (s : Spot) → FirstSpot h mask s → search h mask ≡ Some (spot_place s)
  unfolding search
  first s r =
      in_found ys up_count 0 (spot_place s) (record {
        k = s.y;
        from = zero-le;
        to = r.on.y;
        is = in_found (zs (up_at s.y)) across_count 0 (spot_place s) (record {
          k = s.z;
          from = zero-le;
          to = r.on.z;
          is = in_found (xs (up_at s.y) (across_at s.z)) across_count 0 (spot_place s) (record {
            k = s.x;
            from = zero-le;
            to = r.on.x;
            is = exact h mask (spot_place s) r.exact;
            before = λ i a b. not_at (record { y = s.y; z = s.z; x = i }) (record { y = r.on.y; z = r.on.z; x = omega (arith, b, r.on.x) }) (inr (refl, inr (refl, b)));
          });
          before = λ k a b. in_none (xs (up_at s.y) (across_at k)) across_count 0
              (λ i x y. not_at (record { y = s.y; z = k; x = i }) (record { y = r.on.y; z = omega (arith, b, r.on.z); x = y }) (inr (refl, inl b)));
        });
        before = λ j a b. in_none (zs (up_at j)) across_count 0 (λ k v w. in_none (xs (up_at j) (across_at k)) across_count 0
            (λ i x y. not_at (record { y = j; z = k; x = i }) (record { y = omega (arith, b, r.on.y); z = w; x = y }) (inl b)));
      })
    where
      not_at : (t : Spot) → InGrid t → Before t s → exactly h mask (spot_place t) ≡ None
      not_at t g w = other h mask (spot_place t) (r.first t g w)

  pub searched : Searched h mask
  unfolding search
  searched = record {
    found = found;
    first = first;
    none = λ e t g. layer_none (up_at t.y) (none_in ys up_count 0 e t.y zero-le g.y) t.z t.x g.z g.x;
    nowhere = λ n. in_none ys up_count 0 (λ j a b. in_none (zs (up_at j)) across_count 0 (λ k v w. in_none (xs (up_at j) (across_at k)) across_count 0
        (λ i x y. other h mask (spot_place (record { y = j; z = k; x = i })) (n (record { y = j; z = k; x = i }) (record { y = b; z = w; x = y })))));
  }
