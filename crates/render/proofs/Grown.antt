-- Terms put behind those of each channel: nothing, one and then another, the same terms. Assumes nothing.
use mathlib.Core.Path.{◌≡◌, sym, ap, ◌∙◌}
use mathlib.Core.List.{List, [], ◌++◌, append_assoc, append-nil}
use Prim.Native.Nat.{ℕ}
use Rattle.render.specs.declared.lists.Fed.{Fed}
use Rattle.render.specs.declared.lists.Lists.{Lists}
use Rattle.render.specs.Listed.{Sized, Grown, list_of}

-- nothing is put
pub grown_none : {added : ℕ → List Fed} {a : Lists} → Sized a → ((c : ℕ) → added c ≡ []) → Grown added a a
grown_none {added} {a} s e = record {
  sized = s;
  full = λ h. h;
  lists = λ h c l. sym (ap (λ (fs : List Fed). list_of a c ++ fs) (e c) ∙ append-nil (list_of a c));
}

-- first f, then g
pub grown_then : {f g : ℕ → List Fed} {a b c : Lists} → Grown f a b → Grown g b c → Grown (λ k. f k ++ g k) a c
grown_then {f} {g} {a} {b} {c} p q = record {
  sized = q.sized;
  full = λ h. p.full (q.full h);
  lists = λ h k l. q.lists h k l ∙ ap (λ (fs : List Fed). fs ++ g k) (p.lists (q.full h) k l) ∙ append_assoc (list_of a k) (f k) (g k);
}

-- the same terms in other words
pub grown_as : {f g : ℕ → List Fed} {a b : Lists} → ((c : ℕ) → f c ≡ g c) → Grown f a b → Grown g a b
grown_as {f} {g} {a} {b} e p = record {
  sized = p.sized;
  full = p.full;
  lists = λ h c l. p.lists h c l ∙ ap (λ (fs : List Fed). list_of a c ++ fs) (e c);
}
