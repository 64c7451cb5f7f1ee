-- `print`: each call allows one answer and one content of the lent buffer. Assumes nothing.
use mathlib.Core.Path.{◌≡◌, refl}
use contract.Lifetimes.{Lfts}
use borrow.Fn.Kinds.{Dens, res_t, ended_of}
use denote.Triple.Clauses.{AtExit}
use Rattle.print.proofs.One.{puts_one}
use Rattle.print.proofs.byte.Kinds as byteK
use Rattle.print.proofs.byte.Reads as byteR
use Rattle.print.proofs.text.Kinds as textK
use Rattle.print.proofs.text.Reads as textR
use Rattle.print.proofs.decimal.Kinds as decimalK
use Rattle.print.proofs.decimal.Reads as decimalR
use Rattle.print.proofs.number.Kinds as numberK
use Rattle.print.proofs.number.Reads as numberR
use Rattle.print.proofs.hex_byte.Kinds as hex_byteK
use Rattle.print.proofs.hex_byte.Reads as hex_byteR
use Rattle.print.proofs.hex_half.Kinds as hex_halfK
use Rattle.print.proofs.hex_half.Reads as hex_halfR
use Rattle.print.proofs.hex_word.Kinds as hex_wordK
use Rattle.print.proofs.hex_word.Reads as hex_wordR
use Rattle.print.proofs.hex.Kinds as hexK
use Rattle.print.proofs.hex.Reads as hexR
use Rattle.print.proofs.numbers.Kinds as numbersK
use Rattle.print.proofs.numbers.Reads as numbersR
use Rattle.print.proofs.halves.Kinds as halvesK
use Rattle.print.proofs.halves.Reads as halvesR
use Rattle.print.proofs.hex_words.Kinds as hex_wordsK
use Rattle.print.proofs.hex_words.Reads as hex_wordsR
use Rattle.print.proofs.hex_halves.Kinds as hex_halvesK
use Rattle.print.proofs.hex_halves.Reads as hex_halvesR
use Rattle.print.proofs.line.Kinds as lineK
use Rattle.print.proofs.line.Reads as lineR
use Rattle.print.proofs.refused.Kinds as refusedK
use Rattle.print.proofs.refused.Reads as refusedR

pub byte : (κs : Lfts 1) (a : Dens κs byteK.ps) (x y : (res_t byteK.r κs).Denot) (s t : AtExit (ended_of 1 byteK.ps byteK.r) κs)
    → byteR.Post κs a x s → byteR.Post κs a y t → (s.0.now ≡ t.0.now) × (x ≡ y)
byte κs a x y s t p q = puts_one _ _ _ _ _ _ _ _ refl p q

pub text : (κs : Lfts 2) (a : Dens κs textK.ps) (x y : (res_t textK.r κs).Denot) (s t : AtExit (ended_of 2 textK.ps textK.r) κs)
    → textR.Post κs a x s → textR.Post κs a y t → (s.0.now ≡ t.0.now) × (x ≡ y)
text κs a x y s t p q = puts_one _ _ _ _ _ _ _ _ refl p q

pub decimal : (κs : Lfts 1) (a : Dens κs decimalK.ps) (x y : (res_t decimalK.r κs).Denot) (s t : AtExit (ended_of 1 decimalK.ps decimalK.r) κs)
    → decimalR.Post κs a x s → decimalR.Post κs a y t → (s.0.now ≡ t.0.now) × (x ≡ y)
decimal κs a x y s t p q = puts_one _ _ _ _ _ _ _ _ refl p q

pub number : (κs : Lfts 1) (a : Dens κs numberK.ps) (x y : (res_t numberK.r κs).Denot) (s t : AtExit (ended_of 1 numberK.ps numberK.r) κs)
    → numberR.Post κs a x s → numberR.Post κs a y t → (s.0.now ≡ t.0.now) × (x ≡ y)
number κs a x y s t p q = puts_one _ _ _ _ _ _ _ _ refl p q

pub hex_byte : (κs : Lfts 1) (a : Dens κs hex_byteK.ps) (x y : (res_t hex_byteK.r κs).Denot) (s t : AtExit (ended_of 1 hex_byteK.ps hex_byteK.r) κs)
    → hex_byteR.Post κs a x s → hex_byteR.Post κs a y t → (s.0.now ≡ t.0.now) × (x ≡ y)
hex_byte κs a x y s t p q = puts_one _ _ _ _ _ _ _ _ refl p q

pub hex_half : (κs : Lfts 1) (a : Dens κs hex_halfK.ps) (x y : (res_t hex_halfK.r κs).Denot) (s t : AtExit (ended_of 1 hex_halfK.ps hex_halfK.r) κs)
    → hex_halfR.Post κs a x s → hex_halfR.Post κs a y t → (s.0.now ≡ t.0.now) × (x ≡ y)
hex_half κs a x y s t p q = puts_one _ _ _ _ _ _ _ _ refl p q

pub hex_word : (κs : Lfts 1) (a : Dens κs hex_wordK.ps) (x y : (res_t hex_wordK.r κs).Denot) (s t : AtExit (ended_of 1 hex_wordK.ps hex_wordK.r) κs)
    → hex_wordR.Post κs a x s → hex_wordR.Post κs a y t → (s.0.now ≡ t.0.now) × (x ≡ y)
hex_word κs a x y s t p q = puts_one _ _ _ _ _ _ _ _ refl p q

pub hex : (κs : Lfts 2) (a : Dens κs hexK.ps) (x y : (res_t hexK.r κs).Denot) (s t : AtExit (ended_of 2 hexK.ps hexK.r) κs)
    → hexR.Post κs a x s → hexR.Post κs a y t → (s.0.now ≡ t.0.now) × (x ≡ y)
hex κs a x y s t p q = puts_one _ _ _ _ _ _ _ _ refl p q

pub numbers : (κs : Lfts 2) (a : Dens κs numbersK.ps) (x y : (res_t numbersK.r κs).Denot) (s t : AtExit (ended_of 2 numbersK.ps numbersK.r) κs)
    → numbersR.Post κs a x s → numbersR.Post κs a y t → (s.0.now ≡ t.0.now) × (x ≡ y)
numbers κs a x y s t p q = puts_one _ _ _ _ _ _ _ _ refl p q

pub halves : (κs : Lfts 2) (a : Dens κs halvesK.ps) (x y : (res_t halvesK.r κs).Denot) (s t : AtExit (ended_of 2 halvesK.ps halvesK.r) κs)
    → halvesR.Post κs a x s → halvesR.Post κs a y t → (s.0.now ≡ t.0.now) × (x ≡ y)
halves κs a x y s t p q = puts_one _ _ _ _ _ _ _ _ refl p q

pub hex_words : (κs : Lfts 2) (a : Dens κs hex_wordsK.ps) (x y : (res_t hex_wordsK.r κs).Denot) (s t : AtExit (ended_of 2 hex_wordsK.ps hex_wordsK.r) κs)
    → hex_wordsR.Post κs a x s → hex_wordsR.Post κs a y t → (s.0.now ≡ t.0.now) × (x ≡ y)
hex_words κs a x y s t p q = puts_one _ _ _ _ _ _ _ _ refl p q

pub hex_halves : (κs : Lfts 2) (a : Dens κs hex_halvesK.ps) (x y : (res_t hex_halvesK.r κs).Denot) (s t : AtExit (ended_of 2 hex_halvesK.ps hex_halvesK.r) κs)
    → hex_halvesR.Post κs a x s → hex_halvesR.Post κs a y t → (s.0.now ≡ t.0.now) × (x ≡ y)
hex_halves κs a x y s t p q = puts_one _ _ _ _ _ _ _ _ refl p q

pub line : (κs : Lfts 3) (a : Dens κs lineK.ps) (x y : (res_t lineK.r κs).Denot) (s t : AtExit (ended_of 3 lineK.ps lineK.r) κs)
    → lineR.Post κs a x s → lineR.Post κs a y t → (s.0.now ≡ t.0.now) × (x ≡ y)
line κs a x y s t p q = puts_one _ _ _ _ _ _ _ _ refl p q

pub refused : (κs : Lfts 1) (a : Dens κs refusedK.ps) (x y : (res_t refusedK.r κs).Denot) (s t : AtExit (ended_of 1 refusedK.ps refusedK.r) κs)
    → refusedR.Post κs a x s → refusedR.Post κs a y t → (s.0.now ≡ t.0.now) × (x ≡ y)
refused κs a x y s t p q = puts_one _ _ _ _ _ _ _ _ refl p q
