-- One digit more: what the loop that reads a number goes by.
use Rattle.std.proofs.Common.{◌≡◌, List, ℕ, zero, suc, ◌+◌, ◌-◌, ◌*◌, ◌≤◌, ◌<◌, ◌^◌, add-one, arith, length, get_or, drop, drop_of_length-le, drop-cons, le-leb}
use Rattle.std.specs.Prelude.{None, Some}
use Rattle.std.proofs.lemmas.Bool.{lt-leb}
use Rattle.lines.specs.Lines.{number_from}

module _ (s : List ℕ) (i n : ℕ) where
  pub digits_done : length s ≤ i → number_from n (drop i s) ≡ Some n
  unfolding number_from
  digits_done h = rw (drop_of_length-le s h)

  module _ (h : i < length s) where
    pub digits_on : 48 ≤ get_or s i 0 → get_or s i 0 ≤ 57 → number_from n (drop i s) ≡ number_from (n * 10 + (get_or s i 0 - 48)) (drop (i + 1) s)
    unfolding number_from
    digits_on lo hi = rw (add-one, drop-cons s i 0 h, le-leb _ _ lo, le-leb _ _ hi)

    pub digits_low : get_or s i 0 < 48 → number_from n (drop i s) ≡ None
    unfolding number_from
    digits_low lo = rw (drop-cons s i 0 h, lt-leb _ _ lo)

    pub digits_high : 57 < get_or s i 0 → number_from n (drop i s) ≡ None
    unfolding number_from
    digits_high hi = let lo : 48 ≤ get_or s i 0 = omega arith in rw (drop-cons s i 0 h, le-leb 48 _ lo, lt-leb _ 57 hi)

-- a number of i digits, and one digit more, i below 4
pub room : (i n d : ℕ) → i < 4 → n < 10 ^ i → d ≤ 9 → (n * 10 + d < 10 ^ (i + 1)) × (n * 10 + d ≤ 9999)
room zero n d h b e = omega arith
room (suc zero) n d h b e = omega arith
room (suc (suc zero)) n d h b e = omega arith
room (suc (suc (suc zero))) n d h b e = omega arith
room (suc (suc (suc (suc i)))) n d h b e = absurd (omega arith)
