-- A reader decides on a bounded part of the text: what it has got stays got when more text follows, and what it refuses stays refused
-- with b bytes or more in hand, or with the line at fault complete. So a program with a bounded buffer answers for input of any length,
-- and answers a refusal as soon as its line has arrived.
use Rattle.std.specs.Prelude.{ℕ, zero, suc, ◌+◌, ◌*◌, ◌≤◌, ◌<◌, ◌≡◌, true, false, take, drop}
use Prim.Native.String.{String}
use Rattle.std.proofs.Common.{suc-mul, le_of_suc-le-suc, arith, ◌∙◌, length-append, length-take, lt-ltb, le-ltb}
use Rattle.std.proofs.Math.Path.{refl, sym, ap}
use mathlib.Core.List.{List, [], ◌∷◌, ◌++◌}
use Rattle.std.specs.Prelude.{Option, None, Some}
use Rattle.std.proofs.Math.ListN.{length, length-drop}
use Rattle.std.proofs.lemmas.List.{take-append-le}
use Rattle.std.proofs.Math.Seq.{drop-append-le}
use Rattle.words.specs.Words.{◌=?◌}
use Rattle.words.specs.Cases.{by_test, by_less}
use Rattle.answers.specs.Answer.{Answer, Form, accepted, first_place}
use Rattle.lines.specs.Lines.{bytes, LF, Cursor, Read, got, refused, Reader, give, onward, ◌>>=◌, must, or_form, many, line_length, lines_in, begins, value_in, field}
use Rattle.lines.specs.RoundLaws.{cursor, unread, got_same, onward_there, onward_back}
use Rattle.lines.specs.NumberLaws.{nothing}

-- at most b bytes decide: a got thing took at most b, went on by the lines that it took, and would be got with more text after it;
-- a refusal with b bytes in hand is final, and so is one at a line that is complete (those before line l + lines_in s are)
pub record Decided {A : Type 0} (b : ℕ) (reader : Reader A) : Type 0 where
  pub goes : (l : ℕ) (s u : List ℕ) (a : A) (m : ℕ) (r : List ℕ) → reader (cursor l s) ≡ got a (cursor m r)
      → (reader (cursor l (s ++ u)) ≡ got a (cursor m (r ++ u))) × (length s ≤ b + length r) × (m + lines_in r ≡ l + lines_in s)
  pub stays : (l : ℕ) (s u : List ℕ) (x : Answer) → b ≤ length s → reader (cursor l s) ≡ refused x → reader (cursor l (s ++ u)) ≡ refused x
  pub closes : (l : ℕ) (s u : List ℕ) (x : Answer) → first_place x < l + lines_in s → reader (cursor l s) ≡ refused x → reader (cursor l (s ++ u)) ≡ refused x

-- a larger bound serves too
pub decided_more : {A : Type 0} (b c : ℕ) (reader : Reader A) → b ≤ c → Decided b reader → Decided c reader
decided_more b c reader le d = record {
  goes = λ l s u a m r e. let g = d.goes l s u a m r e in (g.0, omega (arith, g.1), g.2);
  stays = λ l s u x h e. d.stays l s u x (omega arith) e;
  closes = d.closes;
}

same_got : {A : Type 0} {a b : A} {l m : ℕ} {s r : List ℕ} → got a (cursor l s) ≡ got b (cursor m r) → (a ≡ b) × (l ≡ m) × (s ≡ r)
same_got e = let q = got_same e in (q.0, ap (λ (c : Cursor). c.line_no) q.1, ap (λ (c : Cursor). c.text) q.1)

same_refused : {A B : Type 0} {x y : Answer} → ◌≡◌ {A = Read A} (refused x) (refused y) → ◌≡◌ {A = Read B} (refused x) (refused y)
same_refused {A} {B} {x} {y} e = let q : x ≡ y = (cc) in ap refused q

pub give_decided : {A : Type 0} (a : A) → Decided 0 (give a)
give_decided a = record {
  goes = λ l s u b m r e. let q = same_got e in (rw (q.0, q.1, q.2), omega (arith, ap length q.2), omega (arith, q.1, ap lines_in q.2));
  stays = λ l s u x h e. unread (sym e);
  closes = λ l s u x h e. unread (sym e);
}

pub must_decided : (answer : Answer) → Decided 0 (must answer)
must_decided answer = by_test (accepted answer) passes stops
  where
    passes : accepted answer ≡ true → Decided 0 (must answer)
    passes h = record {
      goes = λ l s u b m r e. let q = same_got (rw h at e) in (rw (h, q.1, q.2), omega (arith, ap length q.2), omega (arith, q.1, ap lines_in q.2));
      stays = λ l s u x b e. unread (sym (rw h at e));
      closes = λ l s u x b e. unread (sym (rw h at e));
    }

    stops : accepted answer ≡ false → Decided 0 (must answer)
    stops h = record {
      goes = λ l s u b m r e. unread (rw h at e);
      stays = λ l s u x b e. rw h (rw h at e);
      closes = λ l s u x b e. rw h (rw h at e);
    }

-- one reader after the other
pub then_decided : {A B : Type 0} (b c : ℕ) (reader : Reader A) (rest : A → Reader B) → Decided b reader → ((a : A) → Decided c (rest a)) → Decided (b + c) (reader >>= rest)
then_decided {A} {B} b c reader rest first second = record {
  goes = λ l s u x m r e.
      let h = onward_back (reader (cursor l s)) rest x (cursor m r) e in
      let mid = h.1 in
      let g = first.goes l s u h.0 mid.line_no mid.text h.2 in
      let k = (second h.0).goes mid.line_no mid.text u x m r h.3 in
      (onward_there _ rest h.0 (cursor mid.line_no (mid.text ++ u)) _ g.0 k.0, omega (arith, g.1, k.1), omega (arith, g.2, k.2));
  stays = λ l s u x le e. after l s u x le (reader (cursor l s)) refl e;
  closes = λ l s u x le e. closed l s u x le (reader (cursor l s)) refl e;
}
  where
    after : (l : ℕ) (s u : List ℕ) (x : Answer) → b + c ≤ length s → (r : Read A) → reader (cursor l s) ≡ r → onward r rest ≡ refused x → onward (reader (cursor l (s ++ u))) rest ≡ refused x
    after l s u x le (got a mid) p e =
        let g = first.goes l s u a mid.line_no mid.text p in
        onward_there _ rest a (cursor mid.line_no (mid.text ++ u)) _ g.0 ((second a).stays mid.line_no mid.text u x (omega (arith, g.1)) e)
    after l s u x le (refused y) p e = rw (first.stays l s u x (omega arith) (p ∙ same_refused e))

    closed : (l : ℕ) (s u : List ℕ) (x : Answer) → first_place x < l + lines_in s → (r : Read A) → reader (cursor l s) ≡ r → onward r rest ≡ refused x → onward (reader (cursor l (s ++ u))) rest ≡ refused x
    closed l s u x le (got a mid) p e =
        let g = first.goes l s u a mid.line_no mid.text p in
        onward_there _ rest a (cursor mid.line_no (mid.text ++ u)) _ g.0 ((second a).closes mid.line_no mid.text u x (omega (arith, g.2)) e)
    closed l s u x le (refused y) p e = rw (first.closes l s u x le (p ∙ same_refused e))

-- k things of one kind
pub many_decided : {A : Type 0} (b k : ℕ) (one : Reader A) → Decided b one → Decided (k * b) (many k one)
unfolding many
many_decided b zero one d = decided_more 0 (0 * b) (give []) (omega arith) (give_decided [])
many_decided b (suc k) one d =
    decided_more (b + (k * b + 0)) (suc k * b) _ (omega (arith, suc-mul k b))
    (then_decided b (k * b + 0) one _ d (λ first. then_decided (k * b) 0 (many k one) _ (many_decided b k one d) (λ others. give_decided (first ∷ others))))

-- ---- a field

-- a line that is closed in s stays as it is
line_closed : (s u : List ℕ) → line_length s < length s → line_length (s ++ u) ≡ line_length s
unfolding line_length
line_closed [] u h = absurd (omega arith)
line_closed (b ∷ s) u h = by_test (b =? LF) (λ e. rw e) (λ e. rw e (ap suc (line_closed s u (le_of_suc-le-suc (rw e at h)))))

-- one that is not closed in s is no shorter with more text
line_open : (s u : List ℕ) → length s ≤ line_length s → length s ≤ line_length (s ++ u)
unfolding line_length
line_open [] u h = omega arith
line_open (b ∷ s) u h = by_test (b =? LF) (λ e. absurd (let z : suc (length s) ≤ 0 = rw e at h in omega arith)) (λ e. rw e (let r = line_open s u (le_of_suc-le-suc (rw e at h)) in omega arith))

-- a closed line is one line
pub lines_closed : (s : List ℕ) → line_length s < length s → lines_in s ≡ suc (lines_in (drop (suc (line_length s)) s))
unfolding line_length lines_in
lines_closed [] h = absurd (omega arith)
lines_closed (b ∷ s) h = by_test (b =? LF) (λ e. rw e) (λ e. rw e (lines_closed s (le_of_suc-le-suc (rw e at h))))

-- an open one is none
lines_open : (s : List ℕ) → length s ≤ line_length s → lines_in s ≡ 0
unfolding line_length lines_in
lines_open [] h = refl
lines_open (b ∷ s) h = by_test (b =? LF) (λ e. absurd (let z : suc (length s) ≤ 0 = rw e at h in omega arith)) (λ e. rw e (lines_open s (le_of_suc-le-suc (rw e at h))))

-- with the line's end in hand, what follows plays no part
pub value_closed : {A : Type 0} (meaning : List ℕ → Option A) (key s u : List ℕ) → line_length s < length s → value_in meaning key (s ++ u) ≡ value_in meaning key s
unfolding value_in
value_closed meaning key s u h =
    rw (line_closed s u h, take-append-le (line_length s) s u (omega arith), lt-ltb (line_length s) (length (s ++ u)) (omega (arith, length-append s u)), lt-ltb (line_length s) (length s) h)

module _ {A : Type 0} (meaning : List ℕ → Option A) (key : List ℕ) (longest : ℕ) (short : (v : List ℕ) → longest < length v → meaning v ≡ None) where
  -- an open line has no value
  value_open : (s : List ℕ) → length s ≤ line_length s → value_in meaning key s ≡ None
  unfolding value_in
  value_open s h = rw (le-ltb (line_length s) (length s) h)

  -- a line longer than the key and the longest value has none
  value_long : (s : List ℕ) → length key + longest < line_length s → value_in meaning key s ≡ None
  unfolding value_in
  value_long s h = by_less (line_length s) (length s) closed (value_open s)
    where
      closed : line_length s < length s → value_in meaning key s ≡ None
      closed c =
          by_test (begins key (take (line_length s) s))
          (λ e. rw (lt-ltb (line_length s) (length s) c, e) (short _ (rw (length-drop, length-take) (omega arith))))
          (λ e. rw (lt-ltb (line_length s) (length s) c, e))

  -- a value is on a closed line, no longer than the key and the longest value
  value_bound : (s : List ℕ) (a : A) → value_in meaning key s ≡ Some a → (line_length s < length s) × (line_length s ≤ length key + longest)
  value_bound s a e =
      by_less (line_length s) (length s)
      (λ c. (c, by_less (length key + longest) (line_length s) (λ h. nothing (sym (value_long s h) ∙ e)) (λ h. h)))
      (λ h. nothing (sym (value_open s h) ∙ e))

module _ {A : Type 0} (meaning : List ℕ → Option A) (key : String) (longest : ℕ) (short : (v : List ℕ) → longest < length v → meaning v ≡ None) where
  -- the key, the longest value and the LF decide
  pub field_decided : Decided (length (bytes key) + longest + 1) (field meaning key)
  unfolding field
  field_decided = record {
    goes = λ l s u a m r e. goes (value_in meaning (bytes key) s) l s u a m r refl e;
    stays = λ l s u x h e. stays (value_in meaning (bytes key) s) l s u x h refl e;
    closes = λ l s u x h e. closes (value_in meaning (bytes key) s) l s u x h refl e;
  }
    where
      goes : (o : Option A) (l : ℕ) (s u : List ℕ) (a : A) (m : ℕ) (r : List ℕ) → value_in meaning (bytes key) s ≡ o → or_form o (cursor l s) ≡ got a (cursor m r)
          → (or_form (value_in meaning (bytes key) (s ++ u)) (cursor l (s ++ u)) ≡ got a (cursor m (r ++ u))) × (length s ≤ length (bytes key) + longest + 1 + length r) × (m + lines_in r ≡ l + lines_in s)
      goes None l s u a m r p e = unread e
      goes (Some v) l s u a m r p e =
          let q = same_got e in
          let b = value_bound meaning (bytes key) longest short s v p in
          let c = line_closed s u b.0 in (
            rw (value_closed meaning (bytes key) s u b.0, p, c, drop-append-le (suc (line_length s)) s u b.0, q.0, sym q.1, sym q.2),
            omega (arith, b.0, b.1, ap length q.2, length-drop (suc (line_length s)) s),
            omega (arith, q.1, ap lines_in q.2, lines_closed s b.0),
          )

      stays : (o : Option A) (l : ℕ) (s u : List ℕ) (x : Answer) → length (bytes key) + longest + 1 ≤ length s → value_in meaning (bytes key) s ≡ o → or_form o (cursor l s) ≡ refused x
          → or_form (value_in meaning (bytes key) (s ++ u)) (cursor l (s ++ u)) ≡ refused x
      stays (Some v) l s u x h p e = unread (sym e)
      stays None l s u x h p e =
          by_less (line_length s) (length s)
          (λ c. rw (value_closed meaning (bytes key) s u c, p) e)
          (λ o. rw (value_long meaning (bytes key) longest short (s ++ u) (omega (arith, line_open s u o))) e)

      closes : (o : Option A) (l : ℕ) (s u : List ℕ) (x : Answer) → first_place x < l + lines_in s → value_in meaning (bytes key) s ≡ o → or_form o (cursor l s) ≡ refused x
          → or_form (value_in meaning (bytes key) (s ++ u)) (cursor l (s ++ u)) ≡ refused x
      closes (Some v) l s u x h p e = unread (sym e)
      closes None l s u x h p e =
          let place : Form l ≡ x = (cc) in
          by_less (line_length s) (length s)
          (λ c. rw (value_closed meaning (bytes key) s u c, p) e)
          (λ o. absurd (omega (arith, ap first_place place, lines_open s o)))
