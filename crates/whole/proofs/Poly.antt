-- Polynomials with whole coefficients in a normal form, monomials sorted and like ones joined, and
-- the proof that the form keeps the value. This is the computation after proofs/Ring.antt; nothing
-- else uses it. Assumes nothing.
use mathlib.Core.Path.{◌≡◌, refl, sym, ◌∙◌, ap}
use mathlib.Core.List.{List, [], ◌∷◌}
use mathlib.Core.Bool.{Bool, true, false, ◌&&◌}
use Prim.Native.Nat.{ℕ, zero, suc, ◌+◌, ◌*◌}
use native.Mathlib.Omega.{arith}
use lib.Dec.{T, leb, ltb, eqb, eqb→eq}
use lib.IntN.{ℤ, pos, negsuc, neg_ℤ, ◌+ℤ◌, ◌*ℤ◌, +ℤ_idl, +ℤ_idr, +ℤ_assoc, zero-*ℤ, *ℤ-zero}
use Rattle.whole.proofs.Diff.{ints, vars, same, up, dn, Is, is_add, is_mul}
use Rattle.whole.proofs.Laws.{mul_assoc, mul_left_comm, one_mul, mul_one, add_left_comm}
use Rattle.whole.proofs.Laws.{mul_add, add_mul}

-- ---- expressions over the integers of a list, named by their places in it
pub data Exp : Type 0 where
  at : ℕ → Exp
  num : ℤ → Exp
  plus : Exp → Exp → Exp
  times : Exp → Exp → Exp
  minus : Exp → Exp

abbrev pub look : List ℤ → ℕ → ℤ
look [] i = pos 0
look (z ∷ ρ) zero = z
look (z ∷ ρ) (suc i) = look ρ i

abbrev pub value : List ℤ → Exp → ℤ
value ρ (at i) = look ρ i
value ρ (num z) = z
value ρ (plus e f) = value ρ e +ℤ value ρ f
value ρ (times e f) = value ρ e *ℤ value ρ f
value ρ (minus e) = neg_ℤ (value ρ e)

-- ---- a product of variables, and a sum of such products with coefficients
pub data Mono : Type 0 where
  one : Mono
  by : ℕ → Mono → Mono

pub data Poly : Type 0 where
  nil : Poly
  term : ℤ → Mono → Poly → Poly

abbrev eqm : Mono → Mono → Bool
eqm one one = true
eqm one (by j n) = false
eqm (by i m) one = false
eqm (by i m) (by j n) = eqb i j && eqm m n

-- m stands before n
abbrev ltm : Mono → Mono → Bool
ltm one one = false
ltm one (by j n) = true
ltm (by i m) one = false
ltm (by i m) (by j n) = elim (eqb i j) [ true ↦ ltm m n | false ↦ ltb i j ]

abbrev putm : Bool → ℕ → ℕ → Mono → Mono → Mono
putm true i j n r = by i (by j n)
putm false i j n r = by j r

abbrev insm : ℕ → Mono → Mono
insm i one = by i one
insm i (by j n) = putm (leb i j) i j n (insm i n)

abbrev mulm : Mono → Mono → Mono
mulm one n = n
mulm (by i m) n = insm i (mulm m n)

-- a term before another, or after it, where the rest r already has it
abbrev order : Bool → ℤ → Mono → ℤ → Mono → Poly → Poly → Poly
order true c m d n p r = term c m (term d n p)
order false c m d n p r = term d n r

-- or joined with it
abbrev join : Bool → ℤ → Mono → ℤ → Mono → Poly → Poly → Poly
join true c m d n p r = term (c +ℤ d) m p
join false c m d n p r = order (ltm m n) c m d n p r

abbrev insert : ℤ → Mono → Poly → Poly
insert c m nil = term c m nil
insert c m (term d n p) = join (eqm m n) c m d n p (insert c m p)

abbrev addp : Poly → Poly → Poly
addp nil q = q
addp (term c m p) q = insert c m (addp p q)

abbrev scale : ℤ → Mono → Poly → Poly
scale c m nil = nil
scale c m (term d n p) = insert (c *ℤ d) (mulm m n) (scale c m p)

abbrev mulp : Poly → Poly → Poly
mulp nil q = nil
mulp (term c m p) q = addp (scale c m q) (mulp p q)

-- the normal form of an expression
abbrev pub norm : Exp → Poly
norm (at i) = term (pos 1) (by i one) nil
norm (num z) = term z one nil
norm (plus e f) = addp (norm e) (norm f)
norm (times e f) = mulp (norm e) (norm f)
norm (minus e) = scale (negsuc 0) one (norm e)

abbrev is_zero : ℤ → Bool
is_zero (pos zero) = true
is_zero (pos (suc n)) = false
is_zero (negsuc n) = false

-- every coefficient is zero
abbrev pub zeros : Poly → Bool
zeros nil = true
zeros (term c m p) = is_zero c && zeros p

-- ---- their values
unfoldable pub evm : List ℤ → Mono → ℤ
evm ρ one = pos 1
evm ρ (by i m) = look ρ i *ℤ evm ρ m

unfoldable pub evp : List ℤ → Poly → ℤ
evp ρ nil = pos 0
evp ρ (term c m p) = c *ℤ evm ρ m +ℤ evp ρ p

-- ---- each operation keeps the value
split : (a b : Bool) → T (a && b) → T a × T b
split true b t = (tt, t)
split false b t = absurd t

eqm_ok : (m n : Mono) → T (eqm m n) → m ≡ n
eqm_ok one one t = refl
eqm_ok one (by j n) t = absurd t
eqm_ok (by i m) one t = absurd t
eqm_ok (by i m) (by j n) t =
    let s = split (eqb i j) (eqm m n) t in
    ap (λ (k : ℕ). by k m) (eqb→eq i j s.0) ∙ ap (by j) (eqm_ok m n s.1)

turn : (c d m n : ℤ) → c *ℤ d *ℤ (m *ℤ n) ≡ c *ℤ m *ℤ (d *ℤ n)
turn c d m n = let v = vars (c ∷ d ∷ m ∷ n ∷ []) in same (search ints) (omega arith)

flip : (a : ℤ) → negsuc 0 *ℤ pos 1 *ℤ a ≡ neg_ℤ a
flip a = let v = vars (a ∷ []) in same (search ints) (omega arith)

module _ (ρ : List ℤ) where
  putm_ok : (b : Bool) (i j : ℕ) (n r : Mono) → evm ρ r ≡ look ρ i *ℤ evm ρ n
      → evm ρ (putm b i j n r) ≡ look ρ i *ℤ (look ρ j *ℤ evm ρ n)
  unfolding evm
  putm_ok true i j n r h = refl
  putm_ok false i j n r h = rw (h, mul_left_comm (look ρ j) (look ρ i) (evm ρ n))

  insm_ok : (i : ℕ) (n : Mono) → evm ρ (insm i n) ≡ look ρ i *ℤ evm ρ n
  unfolding evm
  insm_ok i one = refl
  insm_ok i (by j n) = putm_ok (leb i j) i j n (insm i n) (insm_ok i n)

  mulm_ok : (m n : Mono) → evm ρ (mulm m n) ≡ evm ρ m *ℤ evm ρ n
  unfolding evm
  mulm_ok one n = sym (one_mul (evm ρ n))
  mulm_ok (by i m) n =
      insm_ok i (mulm m n) ∙ rw (mulm_ok m n, mul_assoc (look ρ i) (evm ρ m) (evm ρ n))

  abbrev Inserted : ℤ → Mono → Poly → Poly → Type 0
  Inserted c m p r = evp ρ r ≡ c *ℤ evm ρ m +ℤ evp ρ p

  order_ok : (b : Bool) (c : ℤ) (m : Mono) (d : ℤ) (n : Mono) (p r : Poly) → Inserted c m p r
      → Inserted c m (term d n p) (order b c m d n p r)
  unfolding evp
  order_ok true c m d n p r h = refl
  order_ok false c m d n p r h = rw (h, add_left_comm (d *ℤ evm ρ n) (c *ℤ evm ρ m) (evp ρ p))

  join_ok : (b : Bool) (c : ℤ) (m : Mono) (d : ℤ) (n : Mono) (p r : Poly) → (T b → m ≡ n)
      → Inserted c m p r → Inserted c m (term d n p) (join b c m d n p r)
  unfolding evp
  join_ok true c m d n p r e h =
      rw (add_mul c d (evm ρ m), +ℤ_assoc (c *ℤ evm ρ m) (d *ℤ evm ρ m) (evp ρ p))
      (ap (λ (x : Mono). c *ℤ evm ρ m +ℤ (d *ℤ evm ρ x +ℤ evp ρ p)) (e tt))
  join_ok false c m d n p r e h = order_ok (ltm m n) c m d n p r h

  insert_ok : (c : ℤ) (m : Mono) (p : Poly) → Inserted c m p (insert c m p)
  unfolding evp
  insert_ok c m nil = refl
  insert_ok c m (term d n p) =
      join_ok (eqm m n) c m d n p (insert c m p) (eqm_ok m n) (insert_ok c m p)

  addp_ok : (p q : Poly) → evp ρ (addp p q) ≡ evp ρ p +ℤ evp ρ q
  unfolding evp
  addp_ok nil q = sym (+ℤ_idl (evp ρ q))
  addp_ok (term c m p) q =
      insert_ok c m (addp p q) ∙ rw (addp_ok p q, +ℤ_assoc (c *ℤ evm ρ m) (evp ρ p) (evp ρ q))

  scale_ok : (c : ℤ) (m : Mono) (p : Poly) → evp ρ (scale c m p) ≡ (c *ℤ evm ρ m) *ℤ evp ρ p
  unfolding evp
  scale_ok c m nil = sym (*ℤ-zero (c *ℤ evm ρ m))
  scale_ok c m (term d n p) =
      insert_ok (c *ℤ d) (mulm m n) (scale c m p)
      ∙ rw (
        mulm_ok m n,
        scale_ok c m p,
        turn c d (evm ρ m) (evm ρ n),
        mul_add (c *ℤ evm ρ m) (d *ℤ evm ρ n) (evp ρ p),
      )

  mulp_ok : (p q : Poly) → evp ρ (mulp p q) ≡ evp ρ p *ℤ evp ρ q
  unfolding evp
  mulp_ok nil q = sym (zero-*ℤ (evp ρ q))
  mulp_ok (term c m p) q =
      addp_ok (scale c m q) (mulp p q) ∙ rw
      (scale_ok c m q, mulp_ok p q, add_mul (c *ℤ evm ρ m) (evp ρ p) (evp ρ q))

  pub norm_ok : (e : Exp) → evp ρ (norm e) ≡ value ρ e
  unfolding evp evm
  norm_ok (at i) = +ℤ_idr _ ∙ one_mul _ ∙ mul_one (look ρ i)
  norm_ok (num z) = +ℤ_idr _ ∙ mul_one z
  norm_ok (plus e f) = addp_ok (norm e) (norm f) ∙ rw (norm_ok e, norm_ok f)
  norm_ok (times e f) = mulp_ok (norm e) (norm f) ∙ rw (norm_ok e, norm_ok f)
  norm_ok (minus e) = scale_ok (negsuc 0) one (norm e) ∙ flip (evp ρ (norm e))
      ∙ ap neg_ℤ (norm_ok e)

  pub zeros_ok : (p : Poly) → T (zeros p) → evp ρ p ≡ pos 0
  unfolding evp
  zeros_ok nil t = refl
  zeros_ok (term (pos zero) m p) t = rw (zero-*ℤ (evm ρ m), +ℤ_idl (evp ρ p)) (zeros_ok p t)
  zeros_ok (term (pos (suc k)) m p) t = absurd t
  zeros_ok (term (negsuc k) m p) t = absurd t

-- ---- a polynomial as a difference, in which each monomial's two parts are unknowns of `omega`, in
-- whatever order the product was written
-- a monomial without the trailing one
abbrev pub product : List ℤ → Mono → ℤ
product ρ one = pos 1
product ρ (by i one) = look ρ i
product ρ (by i (by j m)) = look ρ i *ℤ product ρ (by j m)

product_ok : (ρ : List ℤ) (m : Mono) → evm ρ m ≡ product ρ m
unfolding evm
product_ok ρ one = refl
product_ok ρ (by i one) = mul_one (look ρ i)
product_ok ρ (by i (by j m)) = ap (λ (z : ℤ). look ρ i *ℤ z) (product_ok ρ (by j m))

abbrev pub ups : List ℤ → Poly → ℕ
ups ρ nil = 0
ups ρ (term (pos c) m p) = c * up (product ρ m) + ups ρ p
ups ρ (term (negsuc c) m p) = suc c * dn (product ρ m) + ups ρ p

abbrev pub dns : List ℤ → Poly → ℕ
dns ρ nil = 0
dns ρ (term (pos c) m p) = c * dn (product ρ m) + dns ρ p
dns ρ (term (negsuc c) m p) = suc c * up (product ρ m) + dns ρ p

-- c times x, and then the rest
add_pos : (c : ℕ) (x y : ℤ) (a b : ℕ) → Is y a b
    → Is (pos c *ℤ x +ℤ y) (c * up x + a) (c * dn x + b)
add_pos c x y a b i = let h =
    is_add (pos c *ℤ x) y _ _ _ _ (is_mul (pos c) x c 0 (up x) (dn x) refl refl) i in omega arith

add_neg : (c : ℕ) (x y : ℤ) (a b : ℕ) → Is y a b
    → Is (negsuc c *ℤ x +ℤ y) (suc c * dn x + a) (suc c * up x + b)
add_neg c x y a b i = let h =
    is_add (negsuc c *ℤ x) y _ _ _ _ (is_mul (negsuc c) x 0 (suc c) (up x) (dn x) refl refl) i in
    omega arith

pub poly_is : (ρ : List ℤ) (p : Poly) → Is (evp ρ p) (ups ρ p) (dns ρ p)
unfolding evp
poly_is ρ nil = refl
poly_is ρ (term (pos c) m p) =
    rw (product_ok ρ m) (add_pos c (product ρ m) (evp ρ p) (ups ρ p) (dns ρ p) (poly_is ρ p))
poly_is ρ (term (negsuc c) m p) =
    rw (product_ok ρ m) (add_neg c (product ρ m) (evp ρ p) (ups ρ p) (dns ρ p) (poly_is ρ p))
