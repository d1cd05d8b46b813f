-- What a character's class says of it.
use Rattle.std.proofs.Common.{◌≡◌, Bool, true, false, cond, refl}
use Rattle.algolw_tree.specs.Chars.{Class, Blank, Letter, Digit, Quote, Sharp, Other}

abbrev chosen : Bool → Bool → Bool → Bool → Bool → Class
chosen a b d q s = cond a Blank (cond b Letter (cond d Digit (cond q Quote (cond s Sharp Other))))

pub blank_test : (a b d q s : Bool) → chosen a b d q s ≡ Blank → a ≡ true
blank_test true b d q s e = refl
blank_test false true d q s e = cc
blank_test false false true q s e = cc
blank_test false false false true s e = cc
blank_test false false false false true e = cc
blank_test false false false false false e = cc

pub letter_test : (a b d q s : Bool) → chosen a b d q s ≡ Letter → b ≡ true
letter_test a true d q s e = refl
letter_test true false d q s e = cc
letter_test false false true q s e = cc
letter_test false false false true s e = cc
letter_test false false false false true e = cc
letter_test false false false false false e = cc

pub digit_test : (a b d q s : Bool) → chosen a b d q s ≡ Digit → d ≡ true
digit_test a b true q s e = refl
digit_test true b false q s e = cc
digit_test false true false q s e = cc
digit_test false false false true s e = cc
digit_test false false false false true e = cc
digit_test false false false false false e = cc

pub quote_test : (a b d q s : Bool) → chosen a b d q s ≡ Quote → q ≡ true
quote_test a b d true s e = refl
quote_test true b d false s e = cc
quote_test false true d false s e = cc
quote_test false false true false s e = cc
quote_test false false false false true e = cc
quote_test false false false false false e = cc

pub sharp_test : (a b d q s : Bool) → chosen a b d q s ≡ Sharp → s ≡ true
sharp_test a b d q true e = refl
sharp_test true b d q false e = cc
sharp_test false true d q false e = cc
sharp_test false false true q false e = cc
sharp_test false false false true false e = cc
sharp_test false false false false false e = cc
