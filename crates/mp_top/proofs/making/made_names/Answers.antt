use Rattle.std.proofs.Common.{◌≡◌, arith}
use Rattle.mp_top.proofs.Made.{made_digit}
use Rattle.mp_top.proofs.making.made_names.Goals as goal

pub returns-in-1 : goal.returns-in-1
returns-in-1 c = rw c.in-1.is (made_digit 1 (omega arith))

pub returns-in-2 : goal.returns-in-2
returns-in-2 c = rw c.in-2.is (made_digit 2 (omega arith))

pub returns-in-3 : goal.returns-in-3
returns-in-3 c = rw c.in-3.is (made_digit 3 (omega arith))

pub returns-in-4 : goal.returns-in-4
returns-in-4 c = rw c.in-4.is (made_digit 4 (omega arith))

pub returns-in-5 : goal.returns-in-5
returns-in-5 c = rw c.in-5.is (made_digit 5 (omega arith))

pub returns-in-6 : goal.returns-in-6
returns-in-6 c = rw c.in-6.is (made_digit 6 (omega arith))

pub returns-in-7 : goal.returns-in-7
returns-in-7 c = rw c.in-7.is (made_digit 7 (omega arith))

pub returns-in_default : goal.returns-in_default
returns-in_default c =
    let least = c.requires.from_1 in
    let most = c.requires.most in
    let is : c.args.agent ≡ 8 = omega (arith, c.in_default, least, most) in
    rw is (made_digit 8 (omega arith))
