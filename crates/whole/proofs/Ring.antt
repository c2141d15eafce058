-- The solver for identities of ℤ and for inequalities that are linear in products. `search exps`
-- reads a term into an expression by following how it is made; proofs/Poly.antt brings that into
-- normal form. proofs/Examples.antt shows how a proof uses it. Assumes nothing.
use mathlib.Core.Path.{◌≡◌, refl, sym, ◌∙◌, ap, subst}
use mathlib.Core.List.{List, [], ◌∷◌}
use Prim.Native.Nat.{ℕ, suc, ◌+◌, ◌*◌, ◌^◌}
use lib.Dec.{T, leb}
use lib.IntN.{ℤ, pos, negsuc, neg_ℤ, ◌+ℤ◌, ◌*ℤ◌, +ℤ_idl, -ℤ-+ℤ_cancel}
use Rattle.whole.proofs.Diff.{Is, Diff, Sides, sides}
use Rattle.whole.proofs.Poly.{Exp, at, num, plus, times, minus, look, value, norm, zeros}
use Rattle.whole.proofs.Poly.{norm_ok, zeros_ok, ups, dns, poly_is}

-- ---- a term over the unknowns ρ, read
pub record Read (ρ : List ℤ) (z : ℤ) : Type 0 where
  pub e : Exp
  pub ok : value ρ e ≡ z

-- both sides of an equation or an order, read
pub record Reading (ρ : List ℤ) (x y : ℤ) : Type 0 where
  pub left : Read ρ x
  pub right : Read ρ y

abbrev pub r_sides : {ρ : List ℤ} {x y : ℤ} → Read ρ x → Read ρ y → Reading ρ x y
r_sides d f = record { left = d; right = f }

abbrev pub r_add : {ρ : List ℤ} {x y : ℤ} → Read ρ x → Read ρ y → Read ρ (x +ℤ y)
r_add d f = record { e = plus d.e f.e; ok = λ i. d.ok i +ℤ f.ok i }

abbrev pub r_mul : {ρ : List ℤ} {x y : ℤ} → Read ρ x → Read ρ y → Read ρ (x *ℤ y)
r_mul d f = record { e = times d.e f.e; ok = λ i. d.ok i *ℤ f.ok i }

abbrev pub r_neg : {ρ : List ℤ} {x : ℤ} → Read ρ x → Read ρ (neg_ℤ x)
r_neg d = record { e = minus d.e; ok = λ i. neg_ℤ (d.ok i) }

-- a literal, which the test tells from a variable
abbrev pub r_pos : {ρ : List ℤ} (k : ℕ) → T (leb k (2 ^ 256)) → Read ρ (pos k)
r_pos k t = record { e = num (pos k); ok = refl }

abbrev pub r_negsuc : {ρ : List ℤ} (k : ℕ) → T (leb k (2 ^ 256)) → Read ρ (negsuc k)
r_negsuc k t = record { e = num (negsuc k); ok = refl }

-- a sum and a product of naturals, as `pos a +ℤ pos b` and `pos a *ℤ pos b` compute
abbrev pub r_pos_add : {ρ : List ℤ} {a b : ℕ} → Read ρ (pos a) → Read ρ (pos b)
    → Read ρ (pos (a + b))
r_pos_add {ρ} {a} {b} d f = r_add {x = pos a} {y = pos b} d f

abbrev pub r_pos_mul : {ρ : List ℤ} {a b : ℕ} → Read ρ (pos a) → Read ρ (pos b)
    → Read ρ (pos (a * b))
r_pos_mul {ρ} {a} {b} d f = r_mul {x = pos a} {y = pos b} d f

pub ruleset exps = (r_sides, r_add, r_mul, r_neg, r_pos, r_negsuc, r_pos_add, r_pos_mul, tt)

-- ---- the unknowns themselves, read: `λ v. search exps`, or `let v = reads ρ in ..`
abbrev r_at : (ρ : List ℤ) (i : ℕ) → Read ρ (look ρ i)
r_at ρ i = record { e = at i; ok = refl }

abbrev ReadsFrom : List ℤ → ℕ → List ℤ → Type 0
ReadsFrom ρ i [] = Unit {0}
ReadsFrom ρ i (z ∷ zs) = Read ρ (look ρ i) × ReadsFrom ρ (suc i) zs

abbrev reads_from : (ρ : List ℤ) (i : ℕ) (zs : List ℤ) → ReadsFrom ρ i zs
reads_from ρ i [] = tt
reads_from ρ i (z ∷ zs) = (r_at ρ i, reads_from ρ (suc i) zs)

abbrev pub Reads : List ℤ → Type 0
Reads ρ = ReadsFrom ρ 0 ρ

abbrev pub reads : (ρ : List ℤ) → Reads ρ
reads ρ = reads_from ρ 0 ρ

-- ---- an identity: the difference of the two sides has no coefficient but zero
abbrev pub differ : Exp → Exp → Exp
differ e f = plus e (minus f)

pub by_zeros : (ρ : List ℤ) (e f : Exp) → T (zeros (norm (differ e f))) → value ρ e ≡ value ρ f
by_zeros ρ e f t =
    sym (-ℤ-+ℤ_cancel (value ρ e) (value ρ f))
    ∙ ap (λ (z : ℤ). z +ℤ value ρ f)
    (sym (norm_ok ρ (differ e f)) ∙ zeros_ok ρ (norm (differ e f)) t)
    ∙ +ℤ_idl (value ρ f)

pub ring : (ρ : List ℤ) {x y : ℤ} (d : Reads ρ → Reading ρ x y)
    → T (zeros (norm (differ (d (reads ρ)).left.e (d (reads ρ)).right.e))) → x ≡ y
ring ρ d t = let s = d (reads ρ) in
    sym s.left.ok ∙ by_zeros ρ s.left.e s.right.e t ∙ s.right.ok

-- ---- an inequality: a term as the difference that its polynomial makes of it, for what
-- proofs/Diff.antt asks
abbrev pub diff : (ρ : List ℤ) {x : ℤ} → Read ρ x → Diff x
diff ρ d =
    let q = norm d.e in
    record {
      p = ups ρ q;
      n = dns ρ q;
      ok = subst (λ (z : ℤ). Is z (ups ρ q) (dns ρ q)) (norm_ok ρ d.e ∙ d.ok) (poly_is ρ q);
    }

abbrev pub poly : (ρ : List ℤ) {x y : ℤ} → Reading ρ x y → Sides x y
poly ρ s = sides (diff ρ s.left) (diff ρ s.right)
