use Rattle.mp_certificates.proofs.ReadingLemmas.{not_accepted, one_certificate, one_line}
use Rattle.mp_certificates.proofs.laws.texts_have_one_reading.Goals as goal

pub returns-clause-one : goal.returns-clause-one
returns-clause-one c = λ tasks text a b few limits h k. one_certificate tasks few limits text a b h k

pub returns-clause-accepted : goal.returns-clause-accepted
returns-clause-accepted c = λ tasks text certificate number few limits h k. not_accepted tasks few limits text certificate number h k

pub returns-clause-first : goal.returns-clause-first
returns-clause-first c = λ tasks text number other few limits h k. one_line tasks few limits text number other h k
