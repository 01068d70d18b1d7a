-- Laws of the round trip: a line that is written is read, a line that is read is one that was written, and the same for many things of one kind.
use Prim.Native.Nat.{ℕ, zero, suc, ◌+◌, ◌/◌, ◌%◌, ◌≤◌, ◌<◌}
use Prim.Native.String.{String}
use native.Mathlib.Omega.{arith}
use Rattle.std.proofs.Math.Decide.{dec_lt}
use Rattle.std.proofs.Common.{le_of_suc-le-suc, ◌∙◌}
use Rattle.std.proofs.Math.Path.{◌≡◌, refl, sym, ap}
use Rattle.std.specs.Prelude.{Bool, ◌&&◌, if◌then◌else◌}
use Rattle.std.proofs.Math.Bool.{true, false}
use mathlib.Core.List.{List, [], ◌∷◌, ◌++◌, flat_map, append_assoc}
use Rattle.std.specs.Prelude.{Option, None, Some}
use Rattle.std.proofs.Math.ListN.{length, take, drop, length-append}
use Rattle.std.proofs.Math.Seq.{take-append_seam, drop-append_seam, drop-append-add}
use borrow.Author.Tests.{eq-eqb, ne_eqb, eqb-true, lt-ltb, ltb-true}
use Rattle.words.specs.Words.{◌<?◌, ◌=?◌}
use Rattle.answers.specs.Answer.{Answer, Form, accepted}
use Rattle.lines.specs.Lines.{bytes, LF, line, number_line, digits, number, Cursor, Read, got, refused, Reader, give, onward, ◌>>=◌, must, or_form, many, line_length, begins, value_in, field, nothing_after}
use Rattle.lines.specs.NumberLaws.{nothing, digits_one, digits_more, number_digits, digits_number}

-- a reader at line l of a text of which s is left
abbrev pub cursor : ℕ → List ℕ → Cursor
cursor l s = record { line_no = l; text = s }

-- ---- no LF inside a line

abbrev pub plain : List ℕ → Bool
plain [] = true
plain (b ∷ s) = if b =? LF then false else plain s

shut : {X : Type 0} → false ≡ true → X
shut e = absurd (let z : ◌≡◌ {A = ℕ} 0 1 = ap (λ (b : Bool). if b then 1 else 0) e in omega arith)

pub plain_append : (s t : List ℕ) → plain s ≡ true → plain t ≡ true → plain (s ++ t) ≡ true
plain_append [] t p q = q
plain_append (b ∷ s) t p q = step (b =? LF) (λ h. plain_append s t h q) p
  where
    step : (x : Bool) → (plain s ≡ true → plain (s ++ t) ≡ true) → (if x then false else plain s) ≡ true → (if x then false else plain (s ++ t)) ≡ true
    step true ih p = p
    step false ih p = ih p

plain_digit : (d : ℕ) → plain ((48 + d) ∷ []) ≡ true
plain_digit d = rw (ne_eqb (48 + d) 10 (omega arith))

plain_upto : (k n : ℕ) → n ≤ k → plain (digits n) ≡ true
plain_upto zero n h = rw (digits_one n (omega arith)) (plain_digit n)
plain_upto (suc k) n h =
    elim (dec_lt n 10) [
      | yes s ↦ rw (digits_one n s) (plain_digit n)
      | no s ↦ rw (digits_more n (omega arith)) (plain_append (digits (n / 10)) ((48 + n % 10) ∷ []) (plain_upto k (n / 10) (omega arith)) (plain_digit (n % 10)))
    ]

pub plain_digits : (n : ℕ) → plain (digits n) ≡ true
plain_digits n = plain_upto n n (omega arith)

-- a line ends at its LF
length_line : (l rest : List ℕ) → plain l ≡ true → line_length (l ++ LF ∷ rest) ≡ length l
unfolding line_length
length_line [] rest p = refl
length_line (b ∷ l) rest p = step (b =? LF) (length_line l rest) p
  where
    step : (x : Bool) → (plain l ≡ true → line_length (l ++ LF ∷ rest) ≡ length l) → (if x then false else plain l) ≡ true → (if x then 0 else suc (line_length (l ++ LF ∷ rest))) ≡ suc (length l)
    step true ih p = shut p
    step false ih p = ap suc (ih p)

-- a text in which a line ends: the line, the LF, the rest
line_split : (s : List ℕ) → line_length s < length s → s ≡ take (line_length s) s ++ LF ∷ drop (suc (line_length s)) s
unfolding line_length
line_split [] h = absurd (omega arith)
line_split (b ∷ s) h = step (b =? LF) (line_split s) (eqb-true b LF) h
  where
    step : (x : Bool) → (line_length s < length s → s ≡ take (line_length s) s ++ LF ∷ drop (suc (line_length s)) s) → (x ≡ true → b ≡ LF) → (if x then 0 else suc (line_length s)) < suc (length s)
        → b ∷ s ≡ take (if x then 0 else suc (line_length s)) (b ∷ s) ++ LF ∷ drop (suc (if x then 0 else suc (line_length s))) (b ∷ s)
    step true ih e h = ap (λ (x : ℕ). x ∷ s) (e refl)
    step false ih e h = ap (λ (r : List ℕ). b ∷ r) (ih (le_of_suc-le-suc h))

-- ---- keys

begins_append : (k s : List ℕ) → begins k (k ++ s) ≡ true
unfolding begins
begins_append [] s = refl
begins_append (b ∷ k) s = rw (eq-eqb b b refl) (begins_append k s)

begins_split : (k s : List ℕ) → begins k s ≡ true → s ≡ k ++ drop (length k) s
unfolding begins
begins_split [] s h = refl
begins_split (b ∷ k) [] h = shut h
begins_split (b ∷ k) (a ∷ s) h = step (b =? a) (begins_split k s) (eqb-true b a) h
  where
    step : (x : Bool) → (begins k s ≡ true → s ≡ k ++ drop (length k) s) → (x ≡ true → b ≡ a) → (x && begins k s) ≡ true → a ∷ s ≡ b ∷ k ++ drop (length k) s
    step true ih e h = rw (e refl) (ap (λ (r : List ℕ). a ∷ r) (ih h))
    step false ih e h = shut h

-- ---- a line's value

module _ {A : Type 0} (meaning : List ℕ → Option A) (key : List ℕ) where
  -- what stands on a line is its value
  value_there : (v rest : List ℕ) → plain key ≡ true → plain v ≡ true
      → (value_in meaning key (key ++ v ++ LF ∷ rest) ≡ meaning v) × (drop (suc (line_length (key ++ v ++ LF ∷ rest))) (key ++ v ++ LF ∷ rest) ≡ rest)
  unfolding value_in
  value_there v rest p q =
      let l : List ℕ = key ++ v in
      let n : line_length (l ++ LF ∷ rest) ≡ length l = length_line l rest (plain_append key v p q) in
      let t : take (length l) (l ++ LF ∷ rest) ≡ l = take-append_seam l (LF ∷ rest) in
      let c : length l < length (l ++ LF ∷ rest) = omega (arith, length-append l (LF ∷ rest)) in
      let e : suc (length l) ≡ length l + 1 = omega arith in
      (rw (n, lt-ltb _ _ c, t, begins_append key v, drop-append_seam key v), rw (n, e) (drop-append-add l (LF ∷ rest) 1))

  -- a value that was read stands on the line
  value_back : (s : List ℕ) (a : A) → value_in meaning key s ≡ Some a
      → (v : List ℕ) × (s ≡ key ++ v ++ LF ∷ drop (suc (line_length s)) s) × (meaning v ≡ Some a)
  unfolding value_in
  value_back s a e = pick (line_length s <? length s) (begins key (take (line_length s) s)) (ltb-true (line_length s) (length s)) (begins_split key (take (line_length s) s)) e
    where
      pick : (x y : Bool) → (x ≡ true → line_length s < length s) → (y ≡ true → take (line_length s) s ≡ key ++ drop (length key) (take (line_length s) s))
          → (if x && y then meaning (drop (length key) (take (line_length s) s)) else None) ≡ Some a
          → (v : List ℕ) × (s ≡ key ++ v ++ LF ∷ drop (suc (line_length s)) s) × (meaning v ≡ Some a)
      pick true true f g e =
          (drop (length key) (take (line_length s) s), line_split s (f refl) ∙ ap (λ (l : List ℕ). l ++ LF ∷ drop (suc (line_length s)) s) (g refl), e)
      pick true false f g e = nothing e
      pick false y f g e = nothing e

-- ---- one reader after the other

-- a refusal has no value
pub unread : {A X : Type 0} {answer : Answer} {a : A} {next : Cursor} → refused answer ≡ got a next → X
unread e = absurd (let z : ◌≡◌ {A = ℕ} 0 1 = cc in omega arith)

-- what is read is one thing at one place
pub got_same : {A : Type 0} {a b : A} {c d : Cursor} → got a c ≡ got b d → (a ≡ b) × (c ≡ d)
got_same e = (cc, cc)

module _ {A B : Type 0} where
  pub onward_there : (r : Read A) (rest : A → Reader B) (a : A) (mid : Cursor) (x : Read B) → r ≡ got a mid → rest a mid ≡ x → onward r rest ≡ x
  onward_there r rest a mid x p q = rw p q

  pub onward_back : (r : Read A) (rest : A → Reader B) (b : B) (next : Cursor) → onward r rest ≡ got b next
      → (a : A) × (mid : Cursor) × (r ≡ got a mid) × (rest a mid ≡ got b next)
  onward_back (got a mid) rest b next e = (a, mid, refl, e)
  onward_back (refused answer) rest b next e = unread e

-- ---- a field

module _ {A : Type 0} (meaning : List ℕ → Option A) (key : String) where
  -- a line that stands there is read
  pub field_there : (a : A) (l : ℕ) (v rest : List ℕ) → plain (bytes key) ≡ true → plain v ≡ true → meaning v ≡ Some a
      → field meaning key (cursor l (line key v ++ rest)) ≡ got a (cursor (suc l) rest)
  unfolding field
  field_there a l v rest p q m =
      let e : line key v ++ rest ≡ bytes key ++ v ++ LF ∷ rest = append_assoc (bytes key ++ v) (LF ∷ []) rest in
      let h = value_there meaning (bytes key) v rest p q in
      rw (e, h.0, m, h.1)

  joined : (v t u : List ℕ) → t ≡ u → bytes key ++ v ++ LF ∷ t ≡ line key v ++ u
  joined v t u q = rw q (sym (append_assoc (bytes key ++ v) (LF ∷ []) u))

  -- a line that was read stands there
  pub field_back : (a : A) (here next : Cursor) → field meaning key here ≡ got a next
      → (v : List ℕ) × (here.text ≡ line key v ++ next.text) × (meaning v ≡ Some a)
  unfolding field
  field_back a here next e = pick (value_in meaning (bytes key) here.text) (value_back meaning (bytes key) here.text) e
    where
      pick : (o : Option A) → ((b : A) → o ≡ Some b → (v : List ℕ) × (here.text ≡ bytes key ++ v ++ LF ∷ drop (suc (line_length here.text)) here.text) × (meaning v ≡ Some b))
          → or_form o here ≡ got a next → (v : List ℕ) × (here.text ≡ line key v ++ next.text) × (meaning v ≡ Some a)
      pick None f e = unread e
      pick (Some b) f e =
          let p : b ≡ a = cc in
          let q : drop (suc (line_length here.text)) here.text ≡ next.text = cc in
          let h = f a (ap Some p) in
          (h.0, h.1 ∙ joined h.0 _ next.text q, h.2)

-- ---- a reader and the text of what it reads: each undoes the other

pub record Undoes {A : Type 0} (one : Reader A) (print : A → List ℕ) (Ok : A → Type 0) : Type 0 where
  pub there : (a : A) (l : ℕ) (rest : List ℕ) → Ok a → (m : ℕ) × (one (cursor l (print a ++ rest)) ≡ got a (cursor m rest))
  pub back : (a : A) (here next : Cursor) → one here ≡ got a next → (here.text ≡ print a ++ next.text) × Ok a

-- a line with a number
pub number_undoes : (key : String) → plain (bytes key) ≡ true → Undoes (field number key) (number_line key) (λ n. n ≤ 9999)
number_undoes key p =
    record {
      there = λ n l rest h. (suc l, field_there number key n l (digits n) rest p (plain_digits n) (number_digits n h));
      back = λ n here next e.
          let f = field_back number key n here next e in
          let d = digits_number n f.0 f.2 in
          (f.1 ∙ rw d.0, d.1);
    }

-- all of them
abbrev pub All : {A : Type 0} → (A → Type 0) → List A → Type 0
All Ok [] = Unit {0}
All Ok (a ∷ rs) = Ok a × All Ok rs

-- things of one kind, one after the other
module _ {A : Type 0} {one : Reader A} {print : A → List ℕ} {Ok : A → Type 0} (undoes : Undoes one print Ok) where
  pub many_there : (rs : List A) (l : ℕ) (rest : List ℕ) → All Ok rs → (m : ℕ) × (many (length rs) one (cursor l (flat_map print rs ++ rest)) ≡ got rs (cursor m rest))
  unfolding many flat_map
  many_there [] l rest ok = (l, refl)
  many_there (a ∷ rs) l rest ok =
      let f = undoes.there a l (flat_map print rs ++ rest) ok.0 in
      let g = many_there rs f.0 rest ok.1 in
      (g.0, rw (append_assoc, f.1, g.1))

  -- what is known of the things read from `here` on
  abbrev Stands : ℕ → List ℕ → List A → Cursor → Type 0
  Stands k s rs next = (s ≡ flat_map print rs ++ next.text) × (length rs ≡ k) × All Ok rs

  stands_same : (k : ℕ) (s : List ℕ) (qs rs : List A) (last next : Cursor) → qs ≡ rs → last ≡ next → Stands k s qs last → Stands k s rs next
  stands_same k s qs rs last next p q h = rw (← p, ← q) h

  stands_more : (k : ℕ) (s : List ℕ) (a : A) (rs : List A) (mid next : Cursor) → (s ≡ print a ++ mid.text) × Ok a → Stands k mid.text rs next → Stands (suc k) s (a ∷ rs) next
  unfolding flat_map
  stands_more k s a rs mid next f g =
      (f.0 ∙ ap (λ (t : List ℕ). print a ++ t) g.0 ∙ sym (append_assoc (print a) (flat_map print rs) next.text), ap suc g.1, (f.1, g.2))

  pub many_back : (k : ℕ) (rs : List A) (here next : Cursor) → many k one here ≡ got rs next → (here.text ≡ flat_map print rs ++ next.text) × (length rs ≡ k) × All Ok rs
  unfolding many flat_map
  many_back zero rs here next e = stands_same 0 here.text [] rs here next (cc) (cc) (refl, refl, tt)
  many_back (suc k) rs here next e =
      let a = onward_back (one here) _ rs next e in
      let b = onward_back (many k one a.1) _ rs next a.3 in
      let f = undoes.back a.0 here a.1 a.2 in
      let g = many_back k b.0 a.1 b.1 b.2 in
      let same = got_same b.3 in
      stands_same (suc k) here.text (a.0 ∷ b.0) rs b.1 next same.0 same.1 (stands_more k here.text a.0 b.0 a.1 b.1 f g)

-- ---- what must be accepted

module _ (here : Cursor) where
  pub must_there : (answer : Answer) → accepted answer ≡ true → must answer here ≡ got tt here
  must_there answer h = rw h

  pub must_back : (answer : Answer) (u : Unit {0}) (next : Cursor) → must answer here ≡ got u next → (accepted answer ≡ true) × (here ≡ next)
  must_back answer u next e = pick (accepted answer) e
    where
      pick : (b : Bool) → (if b then got tt here else refused answer) ≡ got u next → (b ≡ true) × (here ≡ next)
      pick true e = (refl, cc)
      pick false e = unread e

-- ---- no reader refuses by an answer that accepts

abbrev pub Refuses : {A : Type 0} → Reader A → Type 0
Refuses reader = (here : Cursor) (answer : Answer) → reader here ≡ refused answer → accepted answer ≡ false

module _ {A : Type 0} where
  pub give_refuses : (a : A) → Refuses (give a)
  give_refuses a here answer e = absurd (let z : ◌≡◌ {A = ℕ} 0 1 = cc in omega arith)

  pub field_refuses : (meaning : List ℕ → Option A) (key : String) → Refuses (field meaning key)
  unfolding field accepted
  field_refuses meaning key here answer e = pick (value_in meaning (bytes key) here.text) e
    where
      pick : (o : Option A) → or_form o here ≡ refused answer → accepted answer ≡ false
      pick None e = let p : Form here.line_no ≡ answer = cc in rw (← p)
      pick (Some a) e = absurd (let z : ◌≡◌ {A = ℕ} 0 1 = cc in omega arith)

  pub then_refuses : {B : Type 0} (reader : Reader A) (rest : A → Reader B) → Refuses reader → ((a : A) → Refuses (rest a)) → Refuses (reader >>= rest)
  then_refuses reader rest f g here answer e = pick (reader here) (f here) e
    where
      pick : (r : Read A) → ((b : Answer) → r ≡ refused b → accepted b ≡ false) → onward r rest ≡ refused answer → accepted answer ≡ false
      pick (got a mid) f e = g a mid answer e
      pick (refused b) f e = f answer (ap refused cc)

pub must_refuses : (answer : Answer) → Refuses (must answer)
must_refuses answer here b e = pick (accepted answer) refl e
  where
    pick : (x : Bool) → accepted answer ≡ x → (if x then got (tt {0}) here else refused answer) ≡ refused b → accepted b ≡ false
    pick true p e = absurd (let z : ◌≡◌ {A = ℕ} 0 1 = cc in omega arith)
    pick false p e = let q : answer ≡ b = cc in rw (← q) p

pub many_refuses : {A : Type 0} (k : ℕ) (one : Reader A) → Refuses one → Refuses (many k one)
unfolding many
many_refuses zero one f = give_refuses []
many_refuses (suc k) one f = then_refuses one _ f (λ first. then_refuses (many k one) _ (many_refuses k one f) (λ others. give_refuses (first ∷ others)))

pub nothing_refuses : Refuses nothing_after
unfolding nothing_after
nothing_refuses here answer e = must_refuses _ here answer e
